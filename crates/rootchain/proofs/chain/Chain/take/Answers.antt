use Rattle.std.proofs.Common.{rules}
use Rattle.rootchain.specs.Chains.{Verifies}
use Rattle.rootchain.specs.Places.{IsPlace}
use Rattle.rootchain.specs.declared.chain.placing.Place.TheVariants.{Next}
use Rattle.rootchain.proofs.Taking.{next_stays}
use Rattle.rootchain.proofs.chain.Chain.take.Goals as goal

pub invariant_of-self : goal.invariant_of-self
invariant_of-self g c =
    let signed : Verifies g.S.Verifier.verified c.self.inside.key c.args.root = rw (← c.self.view_is) at (c.in_ok-place.ensures.verifies.0 (search rules)) in
    let next : IsPlace g.H.NodeHash.digest_of (record { key = c.self.inside.key; roots = c.self.inside.roots.items }) c.args.root Next = rw (← c.self.view_is, c.in-Next.is) at c.in_ok-place.ensures.place in
    rw c.in_ok-push.ensures.items (next_stays g.H.NodeHash.digest_of g.S.Verifier.verified c.self.inside.key c.self.inside.roots.items c.args.root c.self.invariant signed next)
