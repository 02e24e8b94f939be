use Rattle.std.proofs.Common.{◌≡◌, Err, rules}
use Rattle.asking.specs.Exchanges.{ExchangesFrames}
use Rattle.asking.specs.Scenes.{scene}
use Rattle.asking.proofs.Stepped.{goes_on, halts_stepping, halts_testing}
use Rattle.asking.proofs.asker.Asker.go_on.Goals as goal

pub returns-clause-goes : goal.returns-clause-goes
returns-clause-goes g c =
    goes_on g.H.NodeHash.digest_of g.V.VufCheck.accepted (ExchangesFrames g.T.Write.contents g.T.Read.remaining) c.test_promises.result c.step_all.new.self.marks c.args.self.now.marks
    (scene c.args.self.now c.args.said.now c.args.stream.now) (scene c.step_all.new.self c.step_all.new.said c.step_all.new.stream)
    (scene c.test_promises.new.self c.test_promises.new.said c.test_promises.new.stream) c.in_ok-step_all.ensures.stays.2 c.in_ok-step_all.ensures.steps c.test_promises.ensures.tests

pub returns-clause-halts : goal.returns-clause-halts
returns-clause-halts g c =
    halts_testing g.H.NodeHash.digest_of g.V.VufCheck.accepted (ExchangesFrames g.T.Write.contents g.T.Read.remaining) c.test_promises.result c.test_promises.new.self c.test_promises.new.said
    c.step_all.new.self.marks c.args.self.now.marks (scene c.args.self.now c.args.said.now c.args.stream.now) (scene c.step_all.new.self c.step_all.new.said c.step_all.new.stream)
    c.in_ok-step_all.ensures.stays.2 c.in_ok-step_all.ensures.steps c.test_promises.ensures.halts

pub returns-in_err-step_all-clause-halts : goal.returns-in_err-step_all-clause-halts
returns-in_err-step_all-clause-halts g c =
    let passed : c.from_residual.result ≡ Err c.in_err-step_all.field-0.0 = search rules in
    rw passed (halts_stepping g.H.NodeHash.digest_of g.V.VufCheck.accepted (ExchangesFrames g.T.Write.contents g.T.Read.remaining) c.args.self.now.marks.items c.in_err-step_all.field-0.0
    (scene c.args.self.now c.args.said.now c.args.stream.now) c.step_all.new.self c.step_all.new.said c.in_err-step_all.ensures.halts)
