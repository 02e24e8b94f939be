-- Roots of a chain that looks and promises speak of.
use Rattle.std.proofs.Common.{◌≡◌, ◌≢◌, ◌↔◌, ℕ, zero, suc, List, Bool, false, Option, Some, None, IsTrue, refl, sym, ap, ◌∙◌}
use Rattle.rootchain.specs.Bodies.{body_bytes}
use Rattle.rootchain.specs.Chains.{IsAt, KeyedRoots}
use Rattle.rootchain.specs.declared.promise.Promise.{Promise}
use Rattle.rootchain.specs.declared.signed_root.SignedRoot.{SignedRoot}
use Rattle.client.specs.Clients.{HasRootOf}
use Rattle.client.specs.Looking.{IsLookRoot}

some-root : (one other : SignedRoot) → Some one ≡ Some other → one ≡ other
some-root one other same = cc

-- the root of a later epoch than 0
pub asked-at : (chain : KeyedRoots) (n : ℕ) (found : Option SignedRoot) → n ≢ 0 → ((root : SignedRoot) → (found ≡ Some root) ↔ IsAt chain n root) → (root : SignedRoot) → (found ≡ Some root) ↔ IsLookRoot chain n root
asked-at chain zero found some is = absurd (some refl)
asked-at chain (suc n) found some is = is

module _ (hash : List ℕ → List ℕ) (chain : KeyedRoots) (promise : Promise) (found : Option SignedRoot) (is : (root : SignedRoot) → (found ≡ Some root) ↔ IsAt chain promise.epoch root) where
  pub root-of : (own : SignedRoot) → found ≡ Some own → (test : Bool) → IsTrue test ↔ (promise.body_hash ≡ hash (body_bytes own.body)) → IsTrue test ↔ HasRootOf hash chain promise
  unfolding HasRootOf
  root-of own at test same = (
    λ yes. (own, (is own).0 at, same.0 yes),
    λ has. same.1 (has.2 ∙ ap (λ (root : SignedRoot). hash (body_bytes root.body)) (sym (some-root own has.0 (sym at ∙ (is has.0).1 has.1)))),
  )

  pub no-root-of : found ≡ None → IsTrue false ↔ HasRootOf hash chain promise
  unfolding HasRootOf
  no-root-of none = (λ never. absurd cc, λ has. let there : found ≡ Some has.0 = (is has.0).1 has.1 in absurd cc)
