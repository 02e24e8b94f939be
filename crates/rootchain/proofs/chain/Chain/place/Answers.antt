use Rattle.std.proofs.Common.{rules}
use Rattle.rootchain.specs.Chains.{IsChain, Verifies}
use Rattle.rootchain.proofs.Places.{place_sound}
use Rattle.rootchain.proofs.chain.Chain.place.Goals as goal

pub returns-clause-evidence : goal.returns-clause-evidence
returns-clause-evidence g c =
    let is : IsChain g.H.NodeHash.digest_of g.S.Verifier.verified c.args.self.now = rw (← c.self.view_is) c.self.invariant in
    let signed : Verifies g.S.Verifier.verified c.args.self.now.key c.args.root.now = rw (← c.self.view_is) (c.verifies.ensures.0 (search rules)) in
    place_sound g.H.NodeHash.digest_of g.S.Verifier.verified c.args.self.now c.args.root.now c.place_of.result is signed c.place_of.ensures.place
