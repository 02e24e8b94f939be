-- Lists, place by place.
use Rattle.std.proofs.Common.{◌≡◌, ℕ, zero, suc, ◌+◌, ◌<◌, List, [], ◌∷◌, length, map, get_or, slice_set, refl, ◌∙◌, inl, inr, arith}
use Rattle.std.specs.List.{AllByRecursion}
use Rattle.std.proofs.lemmas.Bool.{cases_lt}
use Rattle.std.proofs.lemmas.List.{length-set, get_or-set_same, get_or-set_other}

-- the first k of n places hold the values of f
abbrev pub IsWritten : {X : Type 0} → (ℕ → X) → X → ℕ → ℕ → List X → Type 0
IsWritten f d n k xs = (length xs ≡ n) × ((j : ℕ) → j < k → get_or xs j d ≡ f j)

pub written-next : {X : Type 0} (f : ℕ → X) (d : X) (n k : ℕ) (xs : List X) (x : X) → k < n → IsWritten f d n k xs → x ≡ f k → IsWritten f d n (k + 1) (slice_set xs k x)
written-next f d n k xs x fits is e = (
  length-set xs k x ∙ is.0,
  λ j below. elim (cases_lt j k) [
    | inl a ↦ get_or-set_other xs k j x d (omega arith) ∙ is.1 j a
    | inr b ↦
        let same : k ≡ j = omega arith in
        rw (← same) (get_or-set_same xs k x d (omega (arith, is.0)) ∙ e)
  ],
)

-- eight places
pub eight-written : {X : Type 0} (xs : List X) (a b c d e f g h : X) → length xs ≡ 8
    → slice_set (slice_set (slice_set (slice_set (slice_set (slice_set (slice_set (slice_set xs 0 a) 1 b) 2 c) 3 d) 4 e) 5 f) 6 g) 7 h
    ≡ a ∷ b ∷ c ∷ d ∷ e ∷ f ∷ g ∷ h ∷ []
eight-written (x0 ∷ x1 ∷ x2 ∷ x3 ∷ x4 ∷ x5 ∷ x6 ∷ x7 ∷ []) a b c d e f g h long = refl
eight-written [] a b c d e f g h long = absurd (omega arith)
eight-written (x0 ∷ []) a b c d e f g h long = absurd (omega arith)
eight-written (x0 ∷ x1 ∷ []) a b c d e f g h long = absurd (omega arith)
eight-written (x0 ∷ x1 ∷ x2 ∷ []) a b c d e f g h long = absurd (omega arith)
eight-written (x0 ∷ x1 ∷ x2 ∷ x3 ∷ []) a b c d e f g h long = absurd (omega arith)
eight-written (x0 ∷ x1 ∷ x2 ∷ x3 ∷ x4 ∷ []) a b c d e f g h long = absurd (omega arith)
eight-written (x0 ∷ x1 ∷ x2 ∷ x3 ∷ x4 ∷ x5 ∷ []) a b c d e f g h long = absurd (omega arith)
eight-written (x0 ∷ x1 ∷ x2 ∷ x3 ∷ x4 ∷ x5 ∷ x6 ∷ []) a b c d e f g h long = absurd (omega arith)
eight-written (x0 ∷ x1 ∷ x2 ∷ x3 ∷ x4 ∷ x5 ∷ x6 ∷ x7 ∷ x8 ∷ xs) a b c d e f g h long = absurd (omega arith)

-- what holds of all holds at each place
pub all-at : {X : Type 0} (P : X → Type 0) (d : X) (xs : List X) → AllByRecursion P xs → (k : ℕ) → k < length xs → P (get_or xs k d)
all-at P d [] all k below = absurd (omega arith)
all-at P d (x ∷ xs) all zero below = all.0
all-at P d (x ∷ xs) all (suc k) below = all-at P d xs all.1 k (omega arith)

-- a list is mapped to another if it is so at each place
pub mapped-at : {X Y : Type 0} (f : X → Y) (d : X) (e : Y) (xs : List X) (ys : List Y) → length ys ≡ length xs
    → ((k : ℕ) → k < length xs → get_or ys k e ≡ f (get_or xs k d)) → ys ≡ map f xs
mapped-at f d e [] [] long is = refl
mapped-at f d e [] (y ∷ ys) long is = absurd (omega arith)
mapped-at f d e (x ∷ xs) [] long is = absurd (omega arith)
mapped-at f d e (x ∷ xs) (y ∷ ys) long is =
    let first = is 0 (omega arith) in
    let rest = mapped-at f d e xs ys (omega arith) (λ k below. is (suc k) (omega arith)) in
    λ i. first i ∷ rest i
