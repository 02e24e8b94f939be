-- All but the last of a list, and its last.
use Rattle.std.proofs.Common.{◌≡◌, ℕ, ◌-◌, ◌<◌, List, [], ◌∷◌, ◌++◌, length, take, slice_get, Some, refl, ap, ◌∙◌, arith}
use Rattle.epochs.specs.Ends.{all_but_last, final}

module _ {X : Type 0} where
  pub front_push : (xs : List X) (x : X) → all_but_last (xs ++ x ∷ []) ≡ xs
  front_push [] x = refl
  front_push (y ∷ []) x = refl
  front_push (y ∷ z ∷ more) x = ap (λ (l : List X). y ∷ l) (front_push (z ∷ more) x)

  pub final_push : (none : X) (xs : List X) (x : X) → final none (xs ++ x ∷ []) ≡ x
  final_push none [] x = refl
  final_push none (y ∷ more) x = final_push y more x

  pub front_final : (none : X) (xs : List X) → 0 < length xs → all_but_last xs ++ final none xs ∷ [] ≡ xs
  front_final none [] some = absurd (omega arith)
  front_final none (x ∷ []) some = refl
  front_final none (x ∷ y ∷ more) some = ap (λ (l : List X). x ∷ l) (front_final x (y ∷ more) (omega arith))

  pub slice_get-final : (none : X) (xs : List X) → 0 < length xs → slice_get xs (length xs - 1) ≡ Some (final none xs)
  slice_get-final none [] some = absurd (omega arith)
  slice_get-final none (x ∷ more) some = ap (slice_get (x ∷ more)) place ∙ last x more
    where
      place : length (x ∷ more) - 1 ≡ length more
      place = omega arith

      last : (y : X) (ys : List X) → slice_get (y ∷ ys) (length ys) ≡ Some (final y ys)
      last y [] = refl
      last y (z ∷ zs) = last z zs

  pub front_take : (xs : List X) → all_but_last xs ≡ take (length xs - 1) xs
  front_take [] = refl
  front_take (x ∷ more) = go x more ∙ ap (λ (n : ℕ). take n (x ∷ more)) place
    where
      place : length more ≡ length (x ∷ more) - 1
      place = omega arith

      go : (y : X) (ys : List X) → all_but_last (y ∷ ys) ≡ take (length ys) (y ∷ ys)
      go y [] = refl
      go y (z ∷ zs) = ap (λ (l : List X). y ∷ l) (go z zs)
