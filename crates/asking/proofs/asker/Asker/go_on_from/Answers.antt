use Rattle.std.proofs.Common.{◌<◌, arith}
use Rattle.asking.specs.Exchanges.{ExchangesFrames}
use Rattle.asking.proofs.Halted.{halts_above}
use Rattle.asking.proofs.asker.Asker.go_on_from.Goals as goal

pub returns-clause-halts : goal.returns-clause-halts
returns-clause-halts g c =
    let high : c.args.head < c.head.ensures.0.body.epoch = omega (arith, c.head.ensures.2) in
    halts_above g.H.NodeHash.digest_of g.V.VufCheck.accepted g.S.Verifier.verified (ExchangesFrames g.T.Write.contents g.T.Read.remaining) c.go_on.result c.args.self.now.marks.items c.args.self.now c.go_on.new.self c.args.said.now c.go_on.new.said
    c.args.stream.now c.head.ensures.0 c.args.head c.head.ensures.1 high c.go_on.ensures.halts
