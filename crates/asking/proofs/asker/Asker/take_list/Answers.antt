use Rattle.std.proofs.Common.{◌≡◌, ◌≢◌, ◌∙◌, ◌+◌, ◌<◌, ◌≤◌, Err, arith, rules, sym}
use Rattle.wire.specs.FrameViews.{frame_seen}
use Rattle.asking.specs.Exchanges.{ExchangesFrames}
use Rattle.asking.specs.Following.{no_roots}
use Rattle.asking.specs.declared.ask_fault.AskFault.TheVariants.{Stopped}
use Rattle.asking.proofs.Listed.{stops_other, stops_refused, stops_unanswered, takes_none, takes_some}
use Rattle.asking.proofs.asker.Asker.take_list.Goals as goal

pub returns-then-eq-clause-takes : goal.returns-then-eq-clause-takes
returns-then-eq-clause-takes g c =
    let from : c.in-Some.from ≡ c.head.ensures.0.body.epoch + 1 = search rules in
    let empty : c.in-Some-2.list.now ≡ no_roots = search rules in
    let gives = rw c.in-Some-2.is at c.in_ok-list.ensures.gives in
    takes_none g.H.NodeHash.digest_of g.S.Verifier.verified (ExchangesFrames g.T.Write.contents g.T.Read.remaining) c.args.self.now c.args.said.now c.args.stream.now
    c.head.ensures.0 c.in-Some.from (frame_seen c.in_ok-frame_in.field-0) c.request.new.stream c.body_of.new.said c.in-Some-2.list.now c.head.ensures.1 from
    (c.in_ok-reply.ensures.sent (frame_seen c.in_ok-frame_in.field-0) (rw c.deref.ensures.value at c.in_ok-frame_in.ensures.ok)) gives empty

pub returns-clause-takes : goal.returns-clause-takes
returns-clause-takes g c =
    let from : c.in-Some.from ≡ c.head.ensures.0.body.epoch + 1 = search rules in
    let gives = rw c.in-Some-2.is at c.in_ok-list.ensures.gives in
    let high : c.in-Some.from ≤ c.head-2.ensures.0.body.epoch = omega (arith, c.head-2.ensures.2) in
    takes_some g.H.NodeHash.digest_of g.S.Verifier.verified (ExchangesFrames g.T.Write.contents g.T.Read.remaining) c.args.self.now c.args.said.now c.args.stream.now
    c.head.ensures.0 c.in-Some.from (frame_seen c.in_ok-frame_in.field-0) c.request.new.stream c.take.new.self c.body_of.new.said c.take.new.said c.in-Some-2.list.now c.head.ensures.1 from
    (c.in_ok-reply.ensures.sent (frame_seen c.in_ok-frame_in.field-0) (rw c.deref.ensures.value at c.in_ok-frame_in.ensures.ok)) gives c.in_ok-take.ensures.updates c.in_ok-take.ensures.said c.in_ok-take.ensures.finals
    c.head-2.ensures.0 c.head-2.ensures.1 high

pub returns-in_default-2-clause-stops : goal.returns-in_default-2-clause-stops
returns-in_default-2-clause-stops g c =
    let from : c.in-Some.from ≡ c.head.ensures.0.body.epoch + 1 = search rules in
    let gives = rw c.in_default-2.is at c.in_ok-list.ensures.gives in
    λ stopped. stops_unanswered g.H.NodeHash.digest_of g.S.Verifier.verified (ExchangesFrames g.T.Write.contents g.T.Read.remaining) c.args.self.now c.args.said.now c.args.stream.now
    c.head.ensures.0 c.in-Some.from (frame_seen c.in_ok-frame_in.field-0) c.request.new.stream c.body_of.new.said c.head.ensures.1 from
    (c.in_ok-reply.ensures.sent (frame_seen c.in_ok-frame_in.field-0) (rw c.deref.ensures.value at c.in_ok-frame_in.ensures.ok)) gives

pub returns-in_err-take-clause-stops : goal.returns-in_err-take-clause-stops
returns-in_err-take-clause-stops g c =
    let from : c.in-Some.from ≡ c.head.ensures.0.body.epoch + 1 = search rules in
    let passed : c.from_residual-in_err-take.result ≡ Err c.in_err-take.field-0.0 = search rules in
    let gives = rw c.in-Some-2.is at c.in_ok-list.ensures.gives in
    λ stopped.
    let here : c.take.result ≡ Err Stopped = search (rules, sym passed ∙ stopped) in
    stops_refused g.H.NodeHash.digest_of g.S.Verifier.verified (ExchangesFrames g.T.Write.contents g.T.Read.remaining) c.args.self.now c.args.said.now c.args.stream.now
    c.head.ensures.0 c.in-Some.from (frame_seen c.in_ok-frame_in.field-0) c.request.new.stream c.take.new.self c.body_of.new.said c.take.new.said c.in-Some-2.list.now c.head.ensures.1 from
    (c.in_ok-reply.ensures.sent (frame_seen c.in_ok-frame_in.field-0) (rw c.deref.ensures.value at c.in_ok-frame_in.ensures.ok)) gives (c.take.ensures.refused here) c.take.ensures.finals

pub returns-then-head-from-clause-stops : goal.returns-then-head-from-clause-stops
returns-then-head-from-clause-stops g c =
    let from : c.in-Some.from ≡ c.head.ensures.0.body.epoch + 1 = search rules in
    let some : c.in-Some-2.list.now ≢ no_roots = search rules in
    let gives = rw c.in-Some-2.is at c.in_ok-list.ensures.gives in
    let low : c.head-2.ensures.0.body.epoch < c.in-Some.from = omega (arith, c.head-2.ensures.2) in
    λ stopped. stops_other g.H.NodeHash.digest_of g.S.Verifier.verified (ExchangesFrames g.T.Write.contents g.T.Read.remaining) c.args.self.now c.args.said.now c.args.stream.now
    c.head.ensures.0 c.in-Some.from (frame_seen c.in_ok-frame_in.field-0) c.request.new.stream c.take.new.self c.body_of.new.said c.take.new.said c.tell_other.new.said c.in-Some-2.list.now c.head.ensures.1
    from (c.in_ok-reply.ensures.sent (frame_seen c.in_ok-frame_in.field-0) (rw c.deref.ensures.value at c.in_ok-frame_in.ensures.ok)) gives some c.in_ok-take.ensures.updates
    c.head-2.ensures.0 c.head-2.ensures.1 low c.in_ok-take.ensures.said c.in_ok-take.ensures.finals c.in_ok-tell_other.ensures.tells
