use Rattle.std.proofs.Common.{◌≡◌, ◌∙◌, ◌<◌, Bool, true, Err, arith, rules, subst, sym}
use Rattle.asking.specs.Exchanges.{ExchangesFrames}
use Rattle.asking.specs.Following.{TakesList}
use Rattle.asking.specs.Scenes.{scene}
use Rattle.asking.specs.declared.ask_fault.AskFault.TheVariants.{Stopped}
use Rattle.asking.proofs.Catching.{halts_before, halts_behind}
use Rattle.asking.proofs.asker.Asker.advance.Goals as goal

pub returns-in_err-take_list-clause-stops : goal.returns-in_err-take_list-clause-stops
returns-in_err-take_list-clause-stops g c =
    let passed : c.from_residual.result ≡ Err c.in_err-take_list.field-0.0 = search rules in
    let low : c.head.ensures.0.body.epoch < c.args.epoch = omega (arith, c.if-epoch-head.false, c.head.ensures.2) in
    λ stopped.
    let here : c.take_list.result ≡ Err Stopped = search (rules, sym passed ∙ stopped) in
    ((c.head.ensures.0, c.head.ensures.1, low), c.take_list.ensures.stops here)

pub returns-in_err-take_list-clause-halts : goal.returns-in_err-take_list-clause-halts
returns-in_err-take_list-clause-halts g c =
    let passed : c.from_residual.result ≡ Err c.in_err-take_list.field-0.0 = search rules in
    let low : c.head.ensures.0.body.epoch < c.args.epoch = omega (arith, c.if-epoch-head.false, c.head.ensures.2) in
    rw passed (λ unstopped. halts_before g.H.NodeHash.digest_of g.V.VufCheck.accepted g.S.Verifier.verified (ExchangesFrames g.T.Write.contents g.T.Read.remaining) c.args.epoch
    c.in_err-take_list.field-0.0 (scene c.args.self.now c.args.said.now c.args.stream.now) c.take_list.new.self c.take_list.new.said (c.head.ensures.0, c.head.ensures.1, low) (c.in_err-take_list.ensures.halts unstopped))

pub returns-in_err-step_all-clause-halts : goal.returns-in_err-step_all-clause-halts
returns-in_err-step_all-clause-halts g c =
    let passed : c.from_residual-in_err-step_all.result ≡ Err c.in_err-step_all.field-0.0 = search rules in
    let low : c.head.ensures.0.body.epoch < c.args.epoch = omega (arith, c.if-epoch-head.false, c.head.ensures.2) in
    let still : c.head-2.ensures.0.body.epoch < c.args.epoch = omega (arith, c.if-epoch-head-2.false, c.head-2.ensures.2) in
    let went : c.in_ok-take_list.field-0 ≡ true = search rules in
    let there = scene c.take_list.new.self c.take_list.new.said c.take_list.new.stream in
    let takes = subst (λ (t : Bool). TakesList g.H.NodeHash.digest_of g.S.Verifier.verified (ExchangesFrames g.T.Write.contents g.T.Read.remaining) (scene c.args.self.now c.args.said.now c.args.stream.now) t there) went c.in_ok-take_list.ensures.takes in
    rw passed (λ unstopped. halts_behind g.H.NodeHash.digest_of g.V.VufCheck.accepted g.S.Verifier.verified (ExchangesFrames g.T.Write.contents g.T.Read.remaining) c.args.epoch
    c.in_err-step_all.field-0.0 (scene c.args.self.now c.args.said.now c.args.stream.now) there c.step_all.new.self c.step_all.new.said (c.head.ensures.0, c.head.ensures.1, low) takes
    (c.head-2.ensures.0, c.head-2.ensures.1, still) c.in_err-step_all.ensures.halts)

pub returns-clause-advances : goal.returns-clause-advances
returns-clause-advances g c =
    let low : c.head.ensures.0.body.epoch < c.args.epoch = omega (arith, c.if-epoch-head.false, c.head.ensures.2) in
    let still : c.head-2.ensures.0.body.epoch < c.args.epoch = omega (arith, c.if-epoch-head-2.false, c.head-2.ensures.2) in
    let went : c.in_ok-take_list.field-0 ≡ true = search rules in
    let there = scene c.take_list.new.self c.take_list.new.said c.take_list.new.stream in
    let takes = subst (λ (t : Bool). TakesList g.H.NodeHash.digest_of g.S.Verifier.verified (ExchangesFrames g.T.Write.contents g.T.Read.remaining) (scene c.args.self.now c.args.said.now c.args.stream.now) t there) went c.in_ok-take_list.ensures.takes in (
      (c.head.ensures.0, c.head.ensures.1, low),
      (
        there,
        takes,
        (c.head-2.ensures.0, c.head-2.ensures.1, still),
        c.in_ok-step_all.ensures.steps,
      ),
    )
