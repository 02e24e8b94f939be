-- The root where the roots after an epoch begin is the chain's first root after it.
use Rattle.std.proofs.Common.{◌≡◌, ◌↔◌, ℕ, ◌<◌, ◌≤◌, List, length, get_or, leb, true, false, Some, sym, ap, subst, ◌∙◌, inl, inr, arith, rules}
use Rattle.std.specs.List.Sorted.{IsPartitionedBy, IsPartitionPoint}
use Rattle.std.proofs.lemmas.Bool.{cases_lt, leb-true, leb-false}
use Rattle.std.proofs.lemmas.List.{get_or_default}
use Rattle.std.proofs.lemmas.List.Sorted.{IsPartitionedBy-leb}
use Rattle.rootchain.specs.declared.signed_root.SignedRoot.{SignedRoot}
use Rattle.rootchain.specs.Chains.{Ascend}
use Rattle.rootchain.specs.Places.{IsNextAfter}
use Rattle.rootchain.proofs.Chains.{one-root}
use Rattle.rootchain.proofs.Places.{rising}

-- the roots before this place have this epoch or one before it, and the others have later epochs
abbrev pub PartsAfter : List SignedRoot → ℕ → ℕ → Type 0
PartsAfter roots epoch place = IsPartitionPoint (λ (root : SignedRoot). root.body.epoch ≤ epoch) (λ (root : SignedRoot). epoch < root.body.epoch) roots place

pub epochs-parted-after : (roots : List SignedRoot) (epoch : ℕ) → Ascend roots → IsPartitionedBy (λ (root : SignedRoot). leb root.body.epoch epoch) roots
epochs-parted-after roots epoch up = IsPartitionedBy-leb (λ (root : SignedRoot). root.body.epoch) roots epoch (rising roots up)

-- where a search by the test ends
pub parts-after-from : (roots : List SignedRoot) (epoch place : ℕ) → IsPartitionPoint (λ (root : SignedRoot). leb root.body.epoch epoch ≡ true) (λ (root : SignedRoot). leb root.body.epoch epoch ≡ false) roots place → PartsAfter roots epoch place
parts-after-from roots epoch place point = (
  λ k d a b. leb-true (get_or roots k d).body.epoch epoch (point.0 k d a b),
  λ k d a b. leb-false (get_or roots k d).body.epoch epoch (point.1 k d a b),
)

module _ (roots : List SignedRoot) (key : List ℕ) (epoch place : ℕ) (up : Ascend roots) (split : PartsAfter roots epoch place) where
  module _ (own : SignedRoot) (inside : place < length roots) (at : get_or roots place own ≡ own) where
    own-after : epoch < own.body.epoch
    own-after = subst (λ (x : SignedRoot). epoch < x.body.epoch) at (split.1 place own (omega arith) inside)

    -- it is the first after the epoch
    own-next : IsNextAfter (record { key = key; roots = roots }) epoch own
    own-next = (
      (place, inside, at),
      own-after,
      λ k d p later. elim (cases_lt k place) [
        | inl less ↦ absurd (omega (arith, later, split.0 k d (omega (arith, p)) less))
        | inr more ↦ rw (get_or_default roots place d own inside ∙ at) at (rising roots up place k d more p)
      ],
    )

    -- no other root is
    pub one-next : (root : SignedRoot) → (Some own ≡ Some root) ↔ IsNextAfter (record { key = key; roots = roots }) epoch root
    one-next root = (
      λ same. let e : own ≡ root = search rules in subst (λ (x : SignedRoot). IsNextAfter (record { key = key; roots = roots }) epoch x) e own-next,
      λ next.
          let low = rw next.0.2 at (own-next.2 next.0.0 root next.0.1 (rw (sym next.0.2) at next.1)) in
          let high = rw at at (next.2 place own inside (rw (sym at) at own-after)) in
          let same : own.body.epoch ≡ root.body.epoch = omega (arith, low, high) in
          ap (λ (x : SignedRoot). Some x) (one-root roots up place next.0.0 own root inside next.0.1 at next.0.2 same),
    )
