use Rattle.std.proofs.Common.{◌≡◌, ◌∙◌, ◌+◌, ℕ, suc, Err, arith, rules, subst}
use Rattle.asking.specs.Exchanges.{ExchangesFrames}
use Rattle.asking.specs.Scenes.{scene}
use Rattle.asking.specs.Watching.{SomeStep}
use Rattle.asking.proofs.Stepped.{all_step_more, all_stepped, some_step_here, some_step_more}
use Rattle.asking.proofs.asker.Asker.step_all.Goals as goal

pub loop-place-preserved : goal.loop-place-preserved
loop-place-preserved g c =
    let next : c.loop-place.place + 1 ≡ suc c.loop-place.place = omega arith in
    let stay = c.in_ok-step_through.ensures.stays in
    let stayed = c.loop-place.invariant.stays in
    let here = scene c.loop-place.self c.loop-place.said c.loop-place.stream in
    let there = scene c.step_through.new.self c.step_through.new.said c.step_through.new.stream in
    let steps = c.in_ok-step_through.ensures.steps in
    record {
      goes = λ after rest. c.loop-place.invariant.goes after
          (all_step_more g.H.NodeHash.digest_of g.V.VufCheck.accepted (ExchangesFrames g.T.Write.contents g.T.Read.remaining) c.loop-place.place (c.loop-place.place + 1) c.len-place-end.result
          steps.0 here there after c.loop-place-test.true next steps.1 rest);
      some = λ reached rest. c.loop-place.invariant.some reached
          (some_step_more g.H.NodeHash.digest_of g.V.VufCheck.accepted (ExchangesFrames g.T.Write.contents g.T.Read.remaining) c.loop-place.place (c.loop-place.place + 1) c.len-place-end.result
          steps.0 here there reached c.loop-place-test.true next steps.1 rest);
      stays = (stay.0 ∙ stayed.0, stay.1 ∙ stayed.1, stay.2 ∙ stayed.2, stay.3 ∙ stayed.3, stay.4 ∙ stayed.4, stay.5 ∙ stayed.5);
      end = c.loop-place.invariant.end;
    }

pub returns-clause-steps : goal.returns-clause-steps
returns-clause-steps g c =
    all_stepped g.H.NodeHash.digest_of g.V.VufCheck.accepted (ExchangesFrames g.T.Write.contents g.T.Read.remaining) c.loop-place.place c.len-place-end.result
    (scene c.args.self.now c.args.said.now c.args.stream.now) (scene c.loop-place.self c.loop-place.said c.loop-place.stream) c.loop-place.invariant.end c.loop-place-test.false c.loop-place.invariant.goes

pub returns-in_err-step_through-clause-halts : goal.returns-in_err-step_through-clause-halts
returns-in_err-step_through-clause-halts g c =
    let passed : c.from_residual.result ≡ Err c.in_err-step_through.field-0.0 = search rules in
    let first = scene c.args.self.now c.args.said.now c.args.stream.now in
    let here = scene c.loop-place.self c.loop-place.said c.loop-place.stream in
    let halts = c.in_err-step_through.ensures.halts in
    let some = c.loop-place.invariant.some halts.0
    (some_step_here g.H.NodeHash.digest_of g.V.VufCheck.accepted (ExchangesFrames g.T.Write.contents g.T.Read.remaining) c.loop-place.place c.len-place-end.result here halts.0 c.loop-place-test.true halts.1) in
    rw passed (halts.0, subst (λ (n : ℕ). SomeStep g.H.NodeHash.digest_of g.V.VufCheck.accepted (ExchangesFrames g.T.Write.contents g.T.Read.remaining) n first 0 halts.0) c.loop-place.invariant.end some, halts.2)
