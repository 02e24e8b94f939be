-- The root that a chain takes as its next one is linked to its head. And the places of roots whose kind is told.
use Rattle.std.proofs.Common.{◌≡◌, ℕ, ◌<◌, ◌≤◌, List, [], ◌∷◌, ◌++◌, refl, ap, subst, inl, inr, arith}
use Rattle.std.proofs.lemmas.Bool.{cases_lt}
use Rattle.rootchain.specs.declared.chain.placing.Place.TheVariants.{Known, Evidence, Next}
use Rattle.rootchain.specs.declared.evidence.RootEvidence.TheVariants.{Link}
use Rattle.rootchain.specs.declared.signed_root.SignedRoot.{SignedRoot}
use Rattle.rootchain.specs.Chains.{IsAt, IsChain, IsHead, KeyedRoots, Links, Verifies}
use Rattle.rootchain.specs.Evidence.{IsLink}
use Rattle.rootchain.specs.Places.{IsFirst, IsPlace, IsPlaceAbove}
use Rattle.rootchain.proofs.Chains.{chain_push}
use Rattle.rootchain.proofs.Places.{ends, one-first}

pub next_links : (hash : List ℕ → List ℕ) (verified : List ℕ → List ℕ → List ℕ → Type 0) (chain : KeyedRoots) (head root : SignedRoot) → IsChain hash verified chain
    → IsHead chain head → IsPlace hash chain root Next → Links hash head root
next_links hash verified chain head root is at place =
    let first = (ends chain.roots is.first).first in
    let at-first = (ends chain.roots is.first).at-first in
    elim (cases_lt head.body.epoch root.body.epoch) [
      | inl above ↦ (place.above head at above, above)
      | inr not-above ↦ elim (cases_lt root.body.epoch first.body.epoch) [
        | inl below ↦ absurd (place.below first at-first below)
        | inr not-below ↦ absurd (place.within first head at-first at not-below not-above)
      ]
    ]

-- so the chain with it is one
pub next_stays : (hash : List ℕ → List ℕ) (verified : List ℕ → List ℕ → List ℕ → Type 0) (key : List ℕ) (roots : List SignedRoot) (root : SignedRoot) → IsChain hash verified (record { key = key; roots = roots })
    → Verifies verified key root → IsPlace hash (record { key = key; roots = roots }) root Next → IsChain hash verified (record { key = key; roots = roots ++ root ∷ [] })
next_stays hash verified key roots root is signed place =
    let last = ends roots is.first in
    chain_push hash verified key roots last.head root is last.at-head signed (next_links hash verified (record { key = key; roots = roots }) last.head root is last.at-head place)

-- the chain has the body of a root that is between its ends
pub known_is_place : (hash : List ℕ → List ℕ) (chain : KeyedRoots) (root own : SignedRoot) → ((first : SignedRoot) → IsFirst chain first → first.body.epoch ≤ root.body.epoch)
    → ((head : SignedRoot) → IsHead chain head → root.body.epoch ≤ head.body.epoch) → IsAt chain root.body.epoch own → own.body ≡ root.body → IsPlace hash chain root Known
known_is_place hash chain root own from to at same = record {
  below = λ f q low. absurd (let least = from f q in omega (arith, least, low));
  within = λ f h q r a b. (own, at, same);
  above = λ h r high. absurd (let most = to h r in omega (arith, most, high));
}

-- a root after the head names its epoch, and not its hash
pub not_named_is_place : (hash : List ℕ → List ℕ) (chain : KeyedRoots) (first head root : SignedRoot) → IsFirst chain first → IsHead chain head → first.body.epoch ≤ root.body.epoch → head.body.epoch < root.body.epoch
    → IsLink hash head root → (other : SignedRoot) → IsHead chain other → IsPlace hash chain root (Evidence (Link other root))
not_named_is_place hash chain first head root at last low high link other also =
    subst (λ (h : SignedRoot). IsPlace hash chain root (Evidence (Link h root))) (one-first head other _ last also) (record {
      below = λ f q less. absurd (let e : first.body.epoch ≡ f.body.epoch = ap (λ (x : SignedRoot). x.body.epoch) (one-first first f _ at q) in omega (arith, e, low, less));
      within = λ f h q r a b. absurd (let e : head.body.epoch ≡ h.body.epoch = ap (λ (x : SignedRoot). x.body.epoch) (one-first head h _ last r) in omega (arith, e, high, b));
      above = λ h r more. subst (λ (x : SignedRoot). IsPlaceAbove hash x root (Evidence (Link head root))) (one-first head h _ last r) (link, refl, refl);
    })
