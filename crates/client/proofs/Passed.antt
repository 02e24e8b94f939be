-- Lists of which the first elements are passed over.
use native.Mathlib.Numerals.{unary_clauses}
use Rattle.std.proofs.Common.{◌≡◌, ◌+◌, ℕ, zero, suc, List, [], ◌∷◌, ap, arith, drop, refl, remove, subst, sym}

-- an element behind them is removed
pub drop-remove : {A : Type 0} (xs : List A) (gone place : ℕ) → drop gone (remove xs (gone + place)) ≡ remove (drop gone xs) place
drop-remove xs zero place =
    let same : zero + place ≡ place = omega arith in
    ap (remove xs) same
drop-remove [] (suc gone) zero = simp unary_clauses refl
drop-remove [] (suc gone) (suc place) = simp unary_clauses refl
drop-remove (x ∷ xs) (suc gone) place =
    let next : suc gone + place ≡ suc (gone + place) = omega arith in
    subst (λ (k : ℕ). drop (suc gone) (remove (x ∷ xs) k) ≡ remove (drop (suc gone) (x ∷ xs)) place) (sym next) (drop-remove xs gone place)

drop-suc : {A : Type 0} (xs : List A) (gone : ℕ) → drop (suc gone) xs ≡ remove (drop gone xs) 0
drop-suc [] zero = refl
drop-suc (x ∷ xs) zero = refl
drop-suc [] (suc gone) = refl
drop-suc (x ∷ xs) (suc gone) = drop-suc xs gone

-- one more is passed over
pub drop-next : {A : Type 0} (xs : List A) (gone : ℕ) → drop (gone + 1) xs ≡ remove (drop gone xs) 0
drop-next xs gone = simp unary_clauses (drop-suc xs gone)
