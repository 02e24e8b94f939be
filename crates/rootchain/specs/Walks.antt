-- How two lists of roots are walked through from their ends.
use Rattle.std.specs.Prelude.{◌≡◌, ◌≢◌, ◌⊎◌, ℕ, ◌+◌, ◌<◌, ◌≤◌, List, length, slice_get, Some}
use Rattle.rootchain.specs.declared.compare.Compare.{Compare}
use Rattle.rootchain.specs.declared.compare.Compare.TheVariants.{Equal, Evidence, Collision}
use Rattle.rootchain.specs.declared.evidence.RootEvidence.TheVariants.{Fork, Link, Skip}
use Rattle.rootchain.specs.declared.signed_root.SignedRoot.{SignedRoot}

-- no root from the place on in the one list has a body of the other list, and the other way round
pub record IsCleared (ones others : List SignedRoot) (i j : ℕ) : Type 0 where
  pub clear : (k l : ℕ) (x y : SignedRoot) → slice_get ones k ≡ Some x → slice_get others l ≡ Some y → (i ≤ k) ⊎ (j ≤ l) → x.body ≢ y.body

-- from these two places up to two others the bodies are the same, in step
pub record IsRun (ones others : List SignedRoot) (i j to to' : ℕ) : Type 0 where
  pub low : i ≤ to
  pub step : i + to' ≡ j + to
  pub same : (k l : ℕ) (x y : SignedRoot) → i ≤ k → k ≤ to → k + to' ≡ l + to → slice_get ones k ≡ Some x → slice_get others l ≡ Some y → x.body ≡ y.body

-- the last two places that have one body
pub record AreLastPlaces (ones others : List SignedRoot) (i j : ℕ) : Type 0 where
  pub one : SignedRoot
  pub other : SignedRoot
  pub at-one : slice_get ones i ≡ Some one
  pub at-other : slice_get others j ≡ Some other
  pub same : one.body ≡ other.body
  pub clear : IsCleared ones others (i + 1) (j + 1)

-- the first two places below these, going down in step, whose bodies differ
pub record AreApartPlaces (ones others : List SignedRoot) (to to' i j : ℕ) : Type 0 where
  pub one : SignedRoot
  pub other : SignedRoot
  pub at-one : slice_get ones i ≡ Some one
  pub at-other : slice_get others j ≡ Some other
  pub differ : one.body ≢ other.body
  pub run : IsRun ones others (i + 1) (j + 1) to to'

-- what the roots at two places show, if everything before them is alike
abbrev pub IsDivergence : List SignedRoot → List SignedRoot → ℕ → ℕ → Compare → Type 0
IsDivergence ones others i j Equal = (length ones ≤ i) ⊎ (length others ≤ j)
IsDivergence ones others i j (Evidence (Fork root also)) = (slice_get ones i ≡ Some root) × (slice_get others j ≡ Some also) × (root.body.epoch ≡ also.body.epoch)
IsDivergence ones others i j (Evidence (Skip root over)) =
    (root.body.epoch < over.body.epoch) × (((slice_get ones i ≡ Some root) × (slice_get others j ≡ Some over)) ⊎ ((slice_get others j ≡ Some root) × (slice_get ones i ≡ Some over)))
IsDivergence ones others i j (Evidence (Link root over)) = ⊥
IsDivergence ones others i j (Collision x y) = ⊥
