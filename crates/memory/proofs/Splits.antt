-- A text is split at its first space in one way.
use Rattle.std.proofs.Common.{◌≡◌, ℕ, List, [], ◌∷◌, ◌++◌, sym, refl}
use Rattle.memory.specs.Words.{HasNoSpace}

pub first_same : (w v a b : List ℕ) → HasNoSpace w → HasNoSpace v → w ++ 32 ∷ a ≡ v ++ 32 ∷ b → (w ≡ v) × (a ≡ b)
first_same [] [] a b p q e = (refl, cc)
first_same [] (y ∷ v) a b p q e = let is : 32 ≡ y = cc in absurd (q.0 (sym is))
first_same (x ∷ w) [] a b p q e = let is : x ≡ 32 = cc in absurd (p.0 is)
first_same (x ∷ w) (y ∷ v) a b p q e =
    let head : x ≡ y = cc in
    let tail : w ++ 32 ∷ a ≡ v ++ 32 ∷ b = cc in
    let rest = first_same w v a b p.1 q.1 tail in
    (cc, rest.1)

pub never_alone : (w a v : List ℕ) → HasNoSpace v → w ++ 32 ∷ a ≡ v → ⊥
never_alone [] a [] q e = cc
never_alone (x ∷ w) a [] q e = cc
never_alone [] a (y ∷ v) q e = let is : 32 ≡ y = cc in q.0 (sym is)
never_alone (x ∷ w) a (y ∷ v) q e = let tail : w ++ 32 ∷ a ≡ v = cc in never_alone w a v q.1 tail
