use Rattle.std.proofs.Common.{rules}
use Rattle.rootchain.specs.Chains.{IsAt}
use Rattle.rootchain.proofs.Taking.{known_is_place}
use Rattle.rootchain.proofs.chain.Chain.kind_within.Goals as goal

pub returns-then-eq : goal.returns-then-eq
returns-then-eq g c =
    let at : IsAt c.args.self.now c.args.root.now.body.epoch c.in-Some.own.now = (c.at.ensures c.in-Some.own.now).0 (search rules) in
    (c.requires.verifies, known_is_place g.H.NodeHash.digest_of c.args.self.now c.args.root.now c.in-Some.own.now c.requires.first c.requires.head at (search rules))
