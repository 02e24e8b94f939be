use Rattle.std.proofs.Common.{List, ℕ, Ok, Err, codes, inl, inr, refl, subst}
use Rattle.client.specs.Starting.{Starts}
use Rattle.wire.specs.FrameViews.{frame_seen}
use Rattle.wire.specs.Requests.{RequestContent}
use Rattle.asking.specs.Exchanges.{ExchangesFrames}
use Rattle.asking.specs.Refused.{client_refuses}
use Rattle.asking.specs.Reports.{Tells}
use Rattle.asking.specs.declared.said.Said.{Said}
use Rattle.asking.proofs.Going.{told_onto}
use Rattle.asking.proofs.asker.Asker.start_at_head.Goals as goal

pub returns-in-Ok-clause-starts : goal.returns-in-Ok-clause-starts
returns-in-Ok-clause-starts g c =
    let gives = rw c.in-Some.is at c.in_ok-root.ensures.gives in
    let sent = c.in_ok-reply.ensures.sent (frame_seen c.in_ok-frame.frame) (rw c.deref.ensures.value at c.in_ok-frame.ensures.ok) in (
      frame_seen c.in_ok-frame.frame,
      subst (λ (asked : RequestContent). ExchangesFrames g.T.Write.contents g.T.Read.remaining c.args.stream.now asked (frame_seen c.in_ok-frame.frame) c.exchange.new.stream) c.request.ensures sent,
      gives.0,
      subst (λ (bytes : List ℕ). Starts g.S.Verifier.verified c.args.key bytes (Ok c.in-Ok.asker.client)) gives.1 c.in-Ok.ensures.ok,
    )

pub returns-in_default-clause-stops : goal.returns-in_default-clause-stops
returns-in_default-clause-stops g c =
    let gives = rw c.in_default.is at c.in_ok-root.ensures.gives in
    let sent = c.in_ok-reply.ensures.sent (frame_seen c.in_ok-frame.frame) (rw c.deref.ensures.value at c.in_ok-frame.ensures.ok) in
    λ stopped. (
      frame_seen c.in_ok-frame.frame,
      subst (λ (asked : RequestContent). ExchangesFrames g.T.Write.contents g.T.Read.remaining c.args.stream.now asked (frame_seen c.in_ok-frame.frame) c.exchange.new.stream) c.request.ensures sent,
      (gives.0, inl gives.1, told_onto c.args.said.now c.body_of.new.said gives.0 gives.2),
    )

pub returns-clause-stops : goal.returns-clause-stops
returns-clause-stops g c =
    let gives = rw c.in-Some.is at c.in_ok-root.ensures.gives in
    let sent = c.in_ok-reply.ensures.sent (frame_seen c.in_ok-frame.frame) (rw c.deref.ensures.value at c.in_ok-frame.ensures.ok) in
    let refuses = client_refuses (codes "client refuses root") c.in-Err.why in
    let tells = subst (λ (s : Said). Tells s refuses c.tell_client.new.said) gives.2 c.in_ok-tell_client-in-Err.ensures.told in
    λ stopped. (
      frame_seen c.in_ok-frame.frame,
      subst (λ (asked : RequestContent). ExchangesFrames g.T.Write.contents g.T.Read.remaining c.args.stream.now asked (frame_seen c.in_ok-frame.frame) c.exchange.new.stream) c.request.ensures sent,
      (
        refuses,
        inr (
          gives.0,
          (c.in-Err.why, c.in_ok-tell_client-in-Err.ensures.known, subst (λ (bytes : List ℕ). Starts g.S.Verifier.verified c.args.key bytes (Err c.in-Err.why)) gives.1 c.in-Err.ensures.err, refl),
        ),
        told_onto c.args.said.now c.tell_client.new.said refuses tells,
      ),
    )
