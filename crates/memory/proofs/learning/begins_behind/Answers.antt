use Rattle.std.proofs.Common.{◌≡◌, ◌∙◌, ap, inl, refl, subst}
use Rattle.client.specs.Clients.{Client}
use Rattle.rootchain.specs.Chains.{KeyedRoots}
use Rattle.rootchain.specs.Places.{IsNextAfter}
use Rattle.memory.proofs.learning.begins_behind.Goals as goal

pub returns-in-Some : goal.returns-in-Some
returns-in-Some g c =
    let root = c.in-Some.root.now in
    let own : c.chain.result.now ≡ c.args.monitor.now.client.chain = c.chain.ensures.value ∙ ap (λ (client : Client). client.chain) c.client.ensures.value in
    inl (root, subst (λ (chain : KeyedRoots). IsNextAfter chain 0 root) own ((c.in-Some.ensures.next root).0 refl), refl)
