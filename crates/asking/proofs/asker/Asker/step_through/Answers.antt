use Rattle.std.proofs.Common.{◌≡◌, ◌∙◌, suc, Bool, Err, true, false, refl, rules, subst}
use Rattle.asking.specs.Exchanges.{ExchangesFrames}
use Rattle.asking.specs.Scenes.{scene}
use Rattle.asking.specs.Watching.{StepsOnce, StepsSome}
use Rattle.asking.specs.declared.ask_fault.AskFault.TheVariants.{NoReply}
use Rattle.asking.proofs.Halted.{halts_here}
use Rattle.asking.proofs.asker.Asker.step_through.Goals as goal

pub loop-init : goal.loop-init
loop-init g c = record { steps = λ count after f. (count, f); some = λ count reached f. (count, f); stays = (refl, refl, refl, refl, refl, refl) }

pub returns-then-not-branch-clause-steps : goal.returns-then-not-branch-clause-steps
returns-then-not-branch-clause-steps g c =
    let went : c.in_ok-step.field-0 ≡ false = search rules in
    c.loop.invariant.steps 0 (scene c.step.new.self c.step.new.said c.step.new.stream)
    (subst (λ (t : Bool). StepsOnce g.H.NodeHash.digest_of g.V.VufCheck.accepted (ExchangesFrames g.T.Write.contents g.T.Read.remaining) (scene c.loop.self c.loop.said c.loop.stream) c.args.place t (scene c.step.new.self c.step.new.said c.step.new.stream))
    went c.in_ok-step.ensures.steps)

pub loop-preserved : goal.loop-preserved
loop-preserved g c =
    let went : c.in_ok-step.field-0 ≡ true = search rules in
    let there = scene c.step.new.self c.step.new.said c.step.new.stream in
    let once = subst (λ (t : Bool). StepsOnce g.H.NodeHash.digest_of g.V.VufCheck.accepted (ExchangesFrames g.T.Write.contents g.T.Read.remaining) (scene c.loop.self c.loop.said c.loop.stream) c.args.place t there) went c.in_ok-step.ensures.steps in
    let stay = c.in_ok-step.ensures.stays in
    let stayed = c.loop.invariant.stays in
    record {
      steps = λ count after f. c.loop.invariant.steps (suc count) after (there, once, f);
      some = λ count reached f. c.loop.invariant.some (suc count) reached (there, once, f);
      stays = (stay.0 ∙ stayed.0, stay.1 ∙ stayed.1, stay.2 ∙ stayed.2, stay.3 ∙ stayed.3, stay.4 ∙ stayed.4, stay.5 ∙ stayed.5);
    }

pub returns-in_err-step-clause-halts : goal.returns-in_err-step-clause-halts
returns-in_err-step-clause-halts g c =
    let passed : c.from_residual.result ≡ Err c.in_err-step.field-0.0 = search rules in
    let here = scene c.loop.self c.loop.said c.loop.stream in
    rw passed (here, c.loop.invariant.some 0 here refl, c.in_err-step.ensures.halts)

pub returns-clause-halts : goal.returns-clause-halts
returns-clause-halts g c =
    halts_here c.loop.self c.loop.said c.loop.stream (StepsSome g.H.NodeHash.digest_of g.V.VufCheck.accepted (ExchangesFrames g.T.Write.contents g.T.Read.remaining) (scene c.args.self.now c.args.said.now c.args.stream.now) c.args.place) NoReply
    (c.loop.invariant.some 0 (scene c.loop.self c.loop.said c.loop.stream) refl)
