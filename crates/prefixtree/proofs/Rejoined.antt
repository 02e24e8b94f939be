-- The halves of a placement below a prefix, joined again.
use Rattle.std.proofs.Common.{◌≡◌, ℕ, suc, ◌<◌, Bool, true, false, eqb, List, [], ◌∷◌, ◌++◌, length, filter, get_or, refl, ap, arith}
use Rattle.std.specs.List.Sorted.{IsPartitionedBy}
use Rattle.encoding.specs.Bits.{bit}
use Rattle.encoding.proofs.Agreement.{bit-cases}
use Rattle.prefixtree.specs.Placement.{Item, Items}
use Rattle.prefixtree.specs.Node.{half}
use Rattle.prefixtree.specs.Under.{IsUnder}
use Rattle.prefixtree.proofs.Halves.{partitioned-IsUnder, zero_not_one, not_zero_one}

module _ (p q : Item → Bool) (one : (x : Item) → p x ≡ true → q x ≡ false) (other : (x : Item) → p x ≡ false → q x ≡ true) where
  none_pass : (xs : Items) → ((k : ℕ) (d : Item) → k < length xs → p (get_or xs k d) ≡ false) → filter p xs ++ filter q xs ≡ xs
  none_pass [] h = refl
  none_pass (x ∷ xs) h =
      let no = h 0 x (omega arith) in
      let rest = none_pass xs (λ k d lt. h (suc k) d (omega arith)) in
      let nil : filter p xs ≡ [] = empty xs (λ k d lt. h (suc k) d (omega arith)) in
      rw (no, other x no, nil) (ap (λ (l : Items). x ∷ l) (rw nil at rest))
    where
      empty : (ys : Items) → ((k : ℕ) (d : Item) → k < length ys → p (get_or ys k d) ≡ false) → filter p ys ≡ []
      empty [] h' = refl
      empty (y ∷ ys) h' = rw (h' 0 y (omega arith)) (empty ys (λ k d lt. h' (suc k) d (omega arith)))

  fails : (x : Item) (xs : Items) → p x ≡ false → IsPartitionedBy p (x ∷ xs) → (k : ℕ) (d : Item) → k < length (x ∷ xs) → p (get_or (x ∷ xs) k d) ≡ false
  fails x xs neg h k d lt = go (p (get_or (x ∷ xs) k d)) refl
    where
      go : (b : Bool) → p (get_or (x ∷ xs) k d) ≡ b → p (get_or (x ∷ xs) k d) ≡ false
      go true t = absurd (cc (h 0 k d (omega arith) lt t, neg))
      go false f = f

  pub partition_append : (xs : Items) → IsPartitionedBy p xs → filter p xs ++ filter q xs ≡ xs
  partition_append [] h = refl
  partition_append (x ∷ xs) h = go (partition_append xs (λ i j d le lt e. h (suc i) (suc j) d (omega arith) (omega arith) e)) (p x) refl
    where
      go : filter p xs ++ filter q xs ≡ xs → (b : Bool) → p x ≡ b → filter p (x ∷ xs) ++ filter q (x ∷ xs) ≡ x ∷ xs
      go rest true pos = rw (pos, one x pos) (ap (λ (l : Items). x ∷ l) rest)
      go rest false neg = none_pass (x ∷ xs) (fails x xs neg h)

-- the items of bit 0, then those of bit 1
pub halves_append : (prefix : List ℕ) (level : ℕ) (items : Items) → level < 256 → IsUnder prefix level items → half 0 level items ++ half 1 level items ≡ items
halves_append prefix level items p under =
    partition_append (λ item. eqb (bit item.0 level) 0) (λ item. eqb (bit item.0 level) 1)
    (λ x t. zero_not_one (bit x.0 level) t) (λ x t. not_zero_one (bit x.0 level) (bit-cases x.0 level) t) items (partitioned-IsUnder prefix level items p under)
