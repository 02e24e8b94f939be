use Rattle.std.proofs.Common.{◌≡◌, ◌∙◌, Err, Global, Vec, ap, inl, refl, rules, subst}
use Rattle.memory.specs.declared.mark.Mark.{Mark}
use Rattle.asking.specs.Exchanges.{ExchangesFrames}
use Rattle.runs.specs.Runs.{background_of}
use Rattle.asking.specs.Scenes.{scene}
use Rattle.asking.specs.Visiting.{TestsAll}
use Rattle.asking.specs.declared.ask_fault.AskFault.{AskFault}
use Rattle.runs.proofs.Ended.{looked_reaches}
use Rattle.asking.proofs.Outcomes.{ok_then}
use Rattle.runs.proofs.Standing.{looked_stands}
use Rattle.runs.proofs.run.Run.look_around.Goals as goal

pub returns-clause-looks : goal.returns-clause-looks
returns-clause-looks g c =
    let middle = scene c.hear_head.new.self c.hear_head.new.said c.args.stream.now in
    λ frame holds.
    let (told, hears, tells) = c.in_ok-hear_head.ensures.finds frame holds in
    ok_then c.test_promises.result c.test_promises.ensures.tests (λ tests. (
      middle,
      record { told = told; hears = hears; tells = tells; same = (c.in_ok-hear_head.ensures.monitors, refl, c.in_ok-hear_head.ensures.finals) },
      subst (λ (all : Vec Mark Global). TestsAll g.H.NodeHash.digest_of g.V.VufCheck.accepted (ExchangesFrames g.T.Write.contents g.T.Read.remaining) all.items middle (scene c.test_promises.new.self c.test_promises.new.said c.test_promises.new.stream)) c.in_ok-hear_head.ensures.stays.2 tests,
    ))

pub returns-clause-reaches : goal.returns-clause-reaches
returns-clause-reaches g c =
    λ frame holds.
    let (told, hears, tells) = c.in_ok-hear_head.ensures.finds frame holds in
    looked_reaches g.H.NodeHash.digest_of g.V.VufCheck.accepted g.S.Verifier.verified (ExchangesFrames g.T.Write.contents g.T.Read.remaining) (background_of c.args.asker.now) c.args.reply.now.held frame c.hear_head.new.self.marks.items c.test_promises.result
    (scene c.args.asker.now c.args.self.now.said c.args.stream.now) (scene c.hear_head.new.self c.hear_head.new.said c.args.stream.now)
    (scene c.test_promises.new.self c.test_promises.new.said c.test_promises.new.stream) c.test_promises.new.self c.test_promises.new.said refl
    (ap (λ (all : Vec Mark Global). all.items) c.in_ok-hear_head.ensures.stays.2) (record { told = told; hears = hears; tells = tells; same = (c.in_ok-hear_head.ensures.monitors, refl, c.in_ok-hear_head.ensures.finals) })
    c.test_promises.ensures.tests c.test_promises.ensures.halts

pub returns-in_err-hear_head-clause-reaches : goal.returns-in_err-hear_head-clause-reaches
returns-in_err-hear_head-clause-reaches g c = λ frame holds. (scene c.args.asker.now c.args.self.now.said c.args.stream.now, inl refl, c.in_err-hear_head.ensures.untold)

pub returns-clause-stands : goal.returns-clause-stands
returns-clause-stands g c =
    λ enough frame holds.
    let (told, hears, tells) = c.in_ok-hear_head.ensures.finds frame holds in
    looked_stands g.H.NodeHash.digest_of g.V.VufCheck.accepted g.S.Verifier.verified (ExchangesFrames g.T.Write.contents g.T.Read.remaining) (background_of c.args.asker.now) c.args.reply.now.held frame c.hear_head.new.self.marks.items c.test_promises.result
    (scene c.args.asker.now c.args.self.now.said c.args.stream.now) (scene c.hear_head.new.self c.hear_head.new.said c.args.stream.now)
    c.test_promises.new.self c.test_promises.new.said c.test_promises.new.stream
    (ap (λ (all : Vec Mark Global). all.items) c.in_ok-hear_head.ensures.stays.2) (record { told = told; hears = hears; tells = tells; same = (c.in_ok-hear_head.ensures.monitors, refl, c.in_ok-hear_head.ensures.finals) })
    c.test_promises.ensures.tests c.test_promises.ensures.err c.test_promises.ensures.halts enough

pub returns-in_err-hear_head-clause-stands : goal.returns-in_err-hear_head-clause-stands
returns-in_err-hear_head-clause-stands g c =
    let passed : c.from_residual.result ≡ Err c.in_err-hear_head.field-0.0 = search rules in
    λ enough frame holds. (
      scene c.args.asker.now c.args.self.now.said c.args.stream.now,
      inl refl,
      c.in_err-hear_head.ensures.untold,
      c.in_err-hear_head.ensures.still (λ same. enough (passed ∙ ap (λ (f : AskFault). Err f) same)),
      c.hear_head.ensures.monitors,
    )
