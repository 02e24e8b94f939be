use Rattle.std.proofs.Common.{◌≡◌, ◌∙◌, suc, Err, Some, None, refl, rules}
use Rattle.asking.specs.Exchanges.{ExchangesFrames}
use Rattle.asking.specs.Scenes.{scene}
use Rattle.asking.specs.Visiting.{TestsSome}
use Rattle.asking.specs.declared.ask_fault.AskFault.TheVariants.{NoReply}
use Rattle.asking.proofs.Halted.{halts_here}
use Rattle.asking.proofs.Tested.{visits_as}
use Rattle.asking.proofs.asker.Asker.test_promises.Goals as goal

pub returns-in-None-clause-tests : goal.returns-in-None-clause-tests
returns-in-None-clause-tests g c =
    let here = scene c.loop.self c.loop.said c.loop.stream in
    let there = scene c.visit.new.self c.visit.new.said c.visit.new.stream in
    c.loop.invariant.tests 0 there
    (visits_as g.H.NodeHash.digest_of g.V.VufCheck.accepted (ExchangesFrames g.T.Write.contents g.T.Read.remaining) c.loop.self.marks c.args.self.now.marks here there c.loop.place
    c.in_ok-next.field-0 None c.loop.invariant.stays.2 c.in-None.is c.in_ok-next.ensures.visits)

pub loop-preserved : goal.loop-preserved
loop-preserved g c =
    let here = scene c.loop.self c.loop.said c.loop.stream in
    let there = scene c.visit.new.self c.visit.new.said c.visit.new.stream in
    let stay = c.in_ok-next.ensures.stays in
    let stayed = c.loop.invariant.stays in
    let visited = visits_as g.H.NodeHash.digest_of g.V.VufCheck.accepted (ExchangesFrames g.T.Write.contents g.T.Read.remaining) c.loop.self.marks c.args.self.now.marks here there c.loop.place
    c.in_ok-next.field-0 (Some c.in-Some.next) stayed.2 c.in-Some.is c.in_ok-next.ensures.visits in
    record {
      tests = λ count after rest. c.loop.invariant.tests (suc count) after (c.in-Some.next, there, visited, rest);
      some = λ count reached rest. c.loop.invariant.some (suc count) reached (c.in-Some.next, there, visited, rest);
      stays = (stay.0 ∙ stayed.0, stay.1 ∙ stayed.1, stay.2 ∙ stayed.2, stay.3 ∙ stayed.3, stay.4 ∙ stayed.4, stay.5 ∙ stayed.5);
    }

pub returns-in_err-next-clause-halts : goal.returns-in_err-next-clause-halts
returns-in_err-next-clause-halts g c =
    let passed : c.from_residual.result ≡ Err c.in_err-next.field-0.0 = search rules in
    let here = scene c.loop.self c.loop.said c.loop.stream in
    rw passed (here, c.loop.invariant.some 0 here refl, c.in_err-next.ensures.halts)

pub returns-clause-halts : goal.returns-clause-halts
returns-clause-halts g c =
    halts_here c.loop.self c.loop.said c.loop.stream (TestsSome g.H.NodeHash.digest_of g.V.VufCheck.accepted (ExchangesFrames g.T.Write.contents g.T.Read.remaining) c.args.self.now.marks.items (scene c.args.self.now c.args.said.now c.args.stream.now)) NoReply
    (c.loop.invariant.some 0 (scene c.loop.self c.loop.said c.loop.stream) refl)
