use Rattle.std.proofs.Common.{rules}
use Rattle.asking.specs.Exchanges.{ExchangesFrames}
use Rattle.asking.specs.Scenes.{scene}
use Rattle.asking.specs.Visiting.{AwaitsMonitor}
use Rattle.asking.proofs.Halted.{halts_free}
use Rattle.asking.proofs.asker.Asker.test_named.Goals as goal

pub returns-clause-halts : goal.returns-clause-halts
returns-clause-halts g c =
    let not : ¬ AwaitsMonitor c.args.self.now.marks.items c.args.self.now.monitors.items c.args.name.now = search rules in
    halts_free g.H.NodeHash.digest_of g.V.VufCheck.accepted g.S.Verifier.verified (ExchangesFrames g.T.Write.contents g.T.Read.remaining) c.test_each.result c.args.self.now.marks.items c.args.name.now
    (scene c.args.self.now c.args.said.now c.args.stream.now) c.test_each.new.self c.test_each.new.said not c.test_each.ensures.halts
