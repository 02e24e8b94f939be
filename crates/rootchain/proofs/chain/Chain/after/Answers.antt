use Rattle.std.proofs.Common.{◌<◌, List, length, get_or, sym, ap, subst, ◌∙◌, arith}
use Rattle.rootchain.specs.declared.signed_root.SignedRoot.{SignedRoot}
use Rattle.rootchain.proofs.Chains.{ascend-linked}
use Rattle.rootchain.proofs.NextRoots.{one-next, PartsAfter}
use Rattle.rootchain.proofs.chain.Chain.after.Goals as goal

pub returns-clause-next : goal.returns-clause-next
returns-clause-next g c root =
    let same = c.roots-roots.ensures.value in
    let split : PartsAfter c.args.self.now.roots c.args.epoch c.not_after-place.result = subst (λ (rs : List SignedRoot). PartsAfter rs c.args.epoch c.not_after-place.result) same c.not_after-place.ensures.point in
    let inside : c.not_after-place.result < length c.args.self.now.roots = omega (arith, c.not_after-place.ensures.within, c.if-place-roots.false, ap (λ (rs : List SignedRoot). length rs) same) in
    one-next c.args.self.now.roots c.args.self.now.key c.args.epoch c.not_after-place.result (ascend-linked g.H.NodeHash.digest_of _ c.roots-roots.ensures.chain.linked) split
    c.index-roots-place.result inside (ap (λ (rs : List SignedRoot). get_or rs c.not_after-place.result c.index-roots-place.result) (sym same) ∙ sym c.index-roots-place.is) root
