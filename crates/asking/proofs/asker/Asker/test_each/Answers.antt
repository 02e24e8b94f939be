use Rattle.std.proofs.Common.{◌≡◌, ◌∙◌, suc, Bool, Err, true, false, refl, rules, subst}
use Rattle.asking.specs.Exchanges.{ExchangesFrames}
use Rattle.asking.specs.Scenes.{scene}
use Rattle.asking.specs.Visiting.{FindsSomeKept, TestsName}
use Rattle.asking.specs.declared.ask_fault.AskFault.TheVariants.{NoReply}
use Rattle.asking.proofs.Halted.{halts_here}
use Rattle.asking.proofs.asker.Asker.test_each.Goals as goal

pub loop-init : goal.loop-init
loop-init g c = record { tests = λ count after f. (count, f); some = λ count reached f. (count, f); stays = (refl, refl, refl, refl, refl, refl) }

pub returns-then-not-branch-clause-tests : goal.returns-then-not-branch-clause-tests
returns-then-not-branch-clause-tests g c =
    let kept : c.in_ok-test.field-0 ≡ false = search rules in
    c.loop.invariant.tests 0 (scene c.test.new.self c.test.new.said c.test.new.stream)
    (subst (λ (t : Bool). TestsName g.H.NodeHash.digest_of g.V.VufCheck.accepted (ExchangesFrames g.T.Write.contents g.T.Read.remaining) (scene c.loop.self c.loop.said c.loop.stream) c.args.name.now t (scene c.test.new.self c.test.new.said c.test.new.stream))
    kept c.in_ok-test.ensures.tests)

pub loop-preserved : goal.loop-preserved
loop-preserved g c =
    let kept : c.in_ok-test.field-0 ≡ true = search rules in
    let there = scene c.test.new.self c.test.new.said c.test.new.stream in
    let once = subst (λ (t : Bool). TestsName g.H.NodeHash.digest_of g.V.VufCheck.accepted (ExchangesFrames g.T.Write.contents g.T.Read.remaining) (scene c.loop.self c.loop.said c.loop.stream) c.args.name.now t there) kept c.in_ok-test.ensures.tests in
    let stay = c.in_ok-test.ensures.stays in
    let stayed = c.loop.invariant.stays in
    record {
      tests = λ count after f. c.loop.invariant.tests (suc count) after (there, once, f);
      some = λ count reached f. c.loop.invariant.some (suc count) reached (there, once, f);
      stays = (stay.0 ∙ stayed.0, stay.1 ∙ stayed.1, stay.2 ∙ stayed.2, stay.3 ∙ stayed.3, stay.4 ∙ stayed.4, stay.5 ∙ stayed.5);
    }

pub returns-in_err-test-clause-halts : goal.returns-in_err-test-clause-halts
returns-in_err-test-clause-halts g c =
    let passed : c.from_residual.result ≡ Err c.in_err-test.field-0.0 = search rules in
    let here = scene c.loop.self c.loop.said c.loop.stream in
    rw passed (here, c.loop.invariant.some 0 here refl, c.in_err-test.ensures.halts)

pub returns-clause-halts : goal.returns-clause-halts
returns-clause-halts g c =
    halts_here c.loop.self c.loop.said c.loop.stream (FindsSomeKept g.H.NodeHash.digest_of g.V.VufCheck.accepted (ExchangesFrames g.T.Write.contents g.T.Read.remaining) c.args.name.now (scene c.args.self.now c.args.said.now c.args.stream.now)) NoReply
    (c.loop.invariant.some 0 (scene c.loop.self c.loop.said c.loop.stream) refl)
