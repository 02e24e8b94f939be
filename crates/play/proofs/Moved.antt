-- A list whose elements change one after another.
use Rattle.std.proofs.Common.{◌≡◌, ◌≢◌, ◌∙◌, ℕ, zero, suc, ◌+◌, ◌<◌, ◌≤◌, List, [], ◌∷◌, length, get_or, slice_set, refl, sym, subst, inl, inr, arith, get_or-set_other, get_or-set_same}
use Rattle.std.specs.List.{AllByRecursion, AllZip}
use Rattle.std.proofs.lemmas.Bool.{cases_lt}

-- up to this place each element was changed so, and the others are as before
pub record AreMoved {X : Type 0} (R : X → X → Type 0) (before : List X) (place : ℕ) (now : List X) : Type 0 where
  pub moved : (k : ℕ) (d : X) → k < place → R (get_or before k d) (get_or now k d)
  pub still : (k : ℕ) (d : X) → place ≤ k → get_or now k d ≡ get_or before k d

module _ {X : Type 0} (R : X → X → Type 0) where
  pub moved-begin : (xs : List X) → AreMoved R xs 0 xs
  moved-begin xs = record { moved = λ k d low. absurd (omega (arith, low)); still = λ k d high. refl }

  pub moved-step : (xs ys : List X) (place : ℕ) (y : X) → place < length ys → ((d : X) → R (get_or ys place d) y) → AreMoved R xs place ys → AreMoved R xs (place + 1) (slice_set ys place y)
  moved-step xs ys place y below one are = record {
    moved = λ k d low. elim (cases_lt k place) [
      | inl before ↦
          let other : k ≢ place = omega (arith, before) in
          subst (R (get_or xs k d)) (sym (get_or-set_other ys place k y d other)) (are.moved k d before)
      | inr behind ↦
          let same : place ≡ k = omega (arith, low, behind) in
          let first = subst (λ (x : X). R x y) (are.still place d (omega arith)) (one d) in
          let last = subst (R (get_or xs place d)) (sym (get_or-set_same ys place y d below)) first in
          subst (λ (j : ℕ). R (get_or xs j d) (get_or (slice_set ys place y) j d)) same last
    ];
    still = λ k d high. let other : k ≢ place = omega (arith, high) in get_or-set_other ys place k y d other ∙ are.still k d (omega (arith, high));
  }

  zip-from : (xs ys : List X) → length ys ≡ length xs → ((k : ℕ) (d : X) → k < length xs → R (get_or xs k d) (get_or ys k d)) → AllZip R xs ys
  zip-from [] [] same each = tt
  zip-from [] (y ∷ ys) same each = absurd (omega (arith, same))
  zip-from (x ∷ xs) [] same each = absurd (omega (arith, same))
  zip-from (x ∷ xs) (y ∷ ys) same each = (each 0 x (omega arith), zip-from xs ys (omega (arith, same)) (λ k d low. each (suc k) d (omega (arith, low))))

  pub moved-end : (xs ys : List X) (place : ℕ) → length ys ≡ length xs → length xs ≤ place → AreMoved R xs place ys → AllZip R xs ys
  moved-end xs ys place same high are = zip-from xs ys same (λ k d low. are.moved k d (omega (arith, low, high)))

-- what holds of all holds of those that are as before
all-at : {X : Type 0} (P : X → Type 0) (xs : List X) → AllByRecursion P xs → (k : ℕ) (d : X) → k < length xs → P (get_or xs k d)
all-at P [] all k d low = absurd (omega (arith, low))
all-at P (x ∷ xs) all zero d low = all.0
all-at P (x ∷ xs) all (suc k) d low = all-at P xs all.1 k d (omega (arith, low))

pub still-holds : {X : Type 0} (P : X → Type 0) (R : X → X → Type 0) (xs ys : List X) (place : ℕ) → length ys ≡ length xs → place < length ys → AreMoved R xs place ys → AllByRecursion P xs → (d : X) → P (get_or ys place d)
still-holds P R xs ys place same low are all d = subst P (sym (are.still place d (omega arith))) (all-at P xs all place d (omega (arith, same, low)))
