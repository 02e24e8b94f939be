-- The end of an index's path, by what the placement has at the index.
use Rattle.std.proofs.Common.{◌≡◌, ◌≢◌, ℕ, ◌≤◌, List, [], ◌∷◌, length, Some, None, Bool, true, false, cond, refl, sym, ap, subst, inl, inr, ◌∙◌, arith}
use Rattle.std.specs.Str.{bytes_eq}
use Rattle.std.proofs.lemmas.Slice.Eq.{bytes_eq-Decides}
use Rattle.std.proofs.lemmas.Cmp.{nat_list_eq_equiv}
use Rattle.std.specs.List.{AllByRecursion}
use Rattle.encoding.specs.Bits.{cut}
use Rattle.encoding.specs.Bytes.{Is32Bytes}
use Rattle.prefixtree.specs.Paths.{agreeing, end_of}
use Rattle.prefixtree.specs.Placement.{Item, Items, commitment_of}
use Rattle.prefixtree.specs.declared.path.End.TheVariants as path
use Rattle.book.proofs.Entries.{Misses, hits, misses}

abbrev agrees : List ℕ → ℕ → Item → Bool
agrees index n item = bytes_eq (cut item.0 n) (cut index n)

same_bytes : (xs ys : List ℕ) → xs ≡ ys → bytes_eq xs ys ≡ true
same_bytes xs ys e = ap (bytes_eq xs) (sym e) ∙ nat_list_eq_equiv.refl xs

other_bytes : (xs ys : List ℕ) → xs ≢ ys → bytes_eq xs ys ≡ false
other_bytes xs ys differ = by (bytes_eq xs ys) refl
  where
    by : (t : Bool) → bytes_eq xs ys ≡ t → bytes_eq xs ys ≡ false
    by true is = absurd (differ ((bytes_eq-Decides xs ys).0 is))
    by false is = is

module _ (index : List ℕ) (n : ℕ) where
  -- where the placement has nothing at the index, no leaf of it is at the end
  pub no_leaf_there : (items : Items) (commitment : List ℕ) → commitment_of items index ≡ None → path.Present commitment ≡ end_of index (agreeing index n items) → ⊥
  no_leaf_there [] commitment none is = absurd cc
  no_leaf_there (item ∷ items) commitment none is =
      let m = misses index item items none in
      by m (agrees index n item) is (no_leaf_there items commitment m.none)
    where
      by : Misses index item items → (t : Bool) → path.Present commitment ≡ end_of index (cond t (item ∷ agreeing index n items) (agreeing index n items))
          → (path.Present commitment ≡ end_of index (agreeing index n items) → ⊥) → ⊥
      by m true is more = let e : path.Present commitment ≡ path.Other item.0 item.1 = is ∙ ap (λ (t : Bool). cond t (path.Present item.1) (path.Other item.0 item.1)) (other_bytes item.0 index m.differs) in absurd cc
      by m false is more = more is

  -- where it has something, its leaf is
  pub leaf_there : (items : Items) (commitment : List ℕ) → commitment_of items index ≡ Some commitment → length (agreeing index n items) ≤ 1 → end_of index (agreeing index n items) ≡ path.Present commitment
  leaf_there [] commitment found few = absurd cc
  leaf_there (item ∷ items) commitment found few = elim (hits index commitment item items found) [
    | inl here ↦ first here.0 here.1
    | inr later ↦ by (agrees index n item) few (leaf_there items commitment later.1)
  ]
    where
      first : item.0 ≡ index → item.1 ≡ commitment → end_of index (agreeing index n (item ∷ items)) ≡ path.Present commitment
      first same is =
          ap (λ (t : Bool). end_of index (cond t (item ∷ agreeing index n items) (agreeing index n items))) (same_bytes (cut item.0 n) (cut index n) (ap (λ (x : List ℕ). cut x n) same))
          ∙ ap (λ (t : Bool). cond t (path.Present item.1) (path.Other item.0 item.1)) (same_bytes item.0 index same) ∙ ap (λ (c : List ℕ). path.Present c) is

      no_more : (rest : Items) → length (item ∷ rest) ≤ 1 → end_of index rest ≡ path.Present commitment → ⊥
      no_more [] few is = absurd cc
      no_more (x ∷ xs) few is = omega arith

      by : (t : Bool) → length (cond t (item ∷ agreeing index n items) (agreeing index n items)) ≤ 1
          → (length (agreeing index n items) ≤ 1 → end_of index (agreeing index n items) ≡ path.Present commitment)
          → end_of index (cond t (item ∷ agreeing index n items) (agreeing index n items)) ≡ path.Present commitment
      by true few more = absurd (no_more (agreeing index n items) few (more (fewer (agreeing index n items) few)))
        where
          fewer : (rest : Items) → length (item ∷ rest) ≤ 1 → length rest ≤ 1
          fewer rest few = omega arith
      by false few more = more few

  -- another leaf at the end is one of the placement
  pub other_sizes : (items : Items) (other commitment : List ℕ) → AllByRecursion (λ each. Is32Bytes each.0 × Is32Bytes each.1) items → path.Other other commitment ≡ end_of index (agreeing index n items)
      → Is32Bytes other × Is32Bytes commitment
  other_sizes [] other commitment are is = absurd cc
  other_sizes (item ∷ items) other commitment are is = by (agrees index n item) is (other_sizes items other commitment are.1)
    where
      first : (t : Bool) → path.Other other commitment ≡ cond t (path.Present item.1) (path.Other item.0 item.1) → Is32Bytes other × Is32Bytes commitment
      first true e = absurd cc
      first false e =
          let o : item.0 ≡ other = cc in
          let c : item.1 ≡ commitment = cc in
          (subst Is32Bytes o are.0.0, subst Is32Bytes c are.0.1)

      by : (t : Bool) → path.Other other commitment ≡ end_of index (cond t (item ∷ agreeing index n items) (agreeing index n items))
          → (path.Other other commitment ≡ end_of index (agreeing index n items) → Is32Bytes other × Is32Bytes commitment) → Is32Bytes other × Is32Bytes commitment
      by true is more = first (bytes_eq item.0 index) is
      by false is more = more is
