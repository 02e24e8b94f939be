use Rattle.std.proofs.Common.{◌≡◌, Some, sym, ap, inl, rules}
use Rattle.rootchain.specs.Chains.{IsAt}
use Rattle.rootchain.specs.declared.signed_root.SignedRoot.{SignedRoot}
use Rattle.memory.proofs.watching.watched_by.Goals as goal

some_root : (one other : SignedRoot) → Some one ≡ Some other → one ≡ other
some_root one other e = cc

pub unreachable-requires : goal.unreachable-requires
unreachable-requires g c =
    let chain : c.chain-chain.result.now ≡ c.args.monitor.now.client.chain = search rules in
    let root = c.in-Some.ensures.0 in
    let at : IsAt c.chain-chain.result.now c.in-Some.next root = rw chain (c.in-Some.ensures.1.0, c.in-Some.ensures.2) in
    let none = (c.in-None.ensures root).1 at in cc

pub returns : goal.returns
returns g c =
    let chain : c.chain-chain.result.now ≡ c.args.monitor.now.client.chain = search rules in
    let root = c.in-Some.ensures.0 in
    let at : IsAt c.chain-chain.result.now c.in-Some.next root = rw chain (c.in-Some.ensures.1.0, c.in-Some.ensures.2) in
    let same = some_root c.in-Some-at.root.now root ((c.in-Some-at.ensures root).1 at) in
    inl (root, c.in-Some.ensures.1, ap (λ (r : SignedRoot). r.body.previous_epoch) (sym same))
