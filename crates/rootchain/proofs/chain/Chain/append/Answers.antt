use Rattle.rootchain.specs.Chains.{Verifies}
use Rattle.rootchain.specs.Places.{IsPlace}
use Rattle.rootchain.specs.declared.chain.placing.Place.TheVariants.{Next}
use Rattle.rootchain.proofs.Taking.{next_stays}
use Rattle.rootchain.proofs.chain.Chain.append.Goals as goal

pub invariant_of-self-2 : goal.invariant_of-self-2
invariant_of-self-2 g c =
    let signed : Verifies g.S.Verifier.verified c.self.inside.key c.args.root = rw (← c.self.view_is) at c.requires.verifies in
    let next : IsPlace g.H.NodeHash.digest_of (record { key = c.self.inside.key; roots = c.self.inside.roots.items }) c.args.root Next = rw (← c.self.view_is) at c.requires.place in
    rw (c.push_reserved.ensures.items, c.reserve.ensures.items) (next_stays g.H.NodeHash.digest_of g.S.Verifier.verified c.self.inside.key c.self.inside.roots.items c.args.root c.self.invariant signed next)
