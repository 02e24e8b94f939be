-- One level down the way of an index among items.
use Rattle.std.proofs.Common.{◌≡◌, ℕ, ◌+◌, ◌-◌, ◌*◌, ◌<◌, ◌≤◌, List, length, refl, ap, subst, ◌∙◌, arith, inl, inr}
use Rattle.std.proofs.lemmas.Bool.{cases_lt}
use Rattle.encoding.specs.Bits.{cut}
use Rattle.encoding.proofs.Agreement.{bit-cases, bit-past_cut, length-cut}
use Rattle.encoding.proofs.Sides.{bit-with_one}
use Rattle.prefixtree.specs.Placement.{Items, IsPlacement}
use Rattle.prefixtree.specs.Node.{half, node_count}
use Rattle.prefixtree.specs.Paths.{agreeing, other_side}
use Rattle.prefixtree.specs.Under.{IsUnder}
use Rattle.prefixtree.proofs.Counts.{node_count-halves}
use Rattle.prefixtree.proofs.Levels.{half-agreeing, more-below, under-agreeing}
use Rattle.prefixtree.proofs.Siblings.{cut-other_side_above, prefix-other_side}
use Rattle.prefixtree.proofs.Splits.{on_side}

module _ (index : List ℕ) (level : ℕ) (items : Items) (p : level < 256) (w : length index ≡ 32) (placed : IsPlacement items) where
  abbrev zeros : Items
  zeros = half 0 level (agreeing index level items)

  abbrev ones : Items
  ones = half 1 level (agreeing index level items)

  -- the items on the side of the index
  below-agrees : on_side index level zeros ones ≡ agreeing index (level + 1) items
  below-agrees =
      elim (bit-cases index level) [
        | inl z ↦ rw z (half-agreeing index index level 0 items p w refl z placed.indices)
        | inr o ↦ rw o (half-agreeing index index level 1 items p w refl o placed.indices)
      ]

  -- and those on the other side
  beside-agrees : on_side index level ones zeros ≡ agreeing (other_side index level) (level + 1) items
  beside-agrees =
      let long : length (other_side index level) ≡ 32 = (prefix-other_side index level p w).long in
      let above : cut (other_side index level) level ≡ cut index level = cut-other_side_above index level in
      elim (bit-cases index level) [
        | inl z ↦
            let within : level < 8 * length (cut index level) = omega (arith, p, w, length-cut index level) in
            rw z (half-agreeing index _ level 1 items p (rw z at long) (rw z at above) (bit-with_one (cut index level) level within) placed.indices)
        | inr o ↦ rw o (half-agreeing index _ level 0 items p (rw o at long) (rw o at above) (bit-past_cut index level level (omega arith)) placed.indices)
      ]

  pub below-is : (left below : Items) → left ≡ agreeing index level items → below ≡ on_side index level (half 0 level left) (half 1 level left) → below ≡ agreeing index (level + 1) items
  below-is left below is on = on ∙ ap (λ (l : Items). on_side index level (half 0 level l) (half 1 level l)) is ∙ below-agrees

  pub beside-is : (left beside : Items) → left ≡ agreeing index level items → beside ≡ on_side index level (half 1 level left) (half 0 level left)
      → beside ≡ agreeing (other_side index level) (level + 1) items
  beside-is left beside is on = on ∙ ap (λ (l : Items). on_side index level (half 1 level l) (half 0 level l)) is ∙ beside-agrees

  pub beside-under : IsUnder (other_side index level) (level + 1) (agreeing (other_side index level) (level + 1) items)
  beside-under =
      let prefix = prefix-other_side index level p w in
      subst (λ (q : List ℕ). IsUnder q (level + 1) (agreeing (other_side index level) (level + 1) items)) prefix.is_cut (under-agreeing (other_side index level) (level + 1) items prefix.long placed)

  pub count-sides : 1 < length (agreeing index level items)
      → node_count (256 - level) (agreeing index level items)
      ≡ node_count (256 - (level + 1)) (agreeing index (level + 1) items) + node_count (256 - (level + 1)) (agreeing (other_side index level) (level + 1) items) + 1
  count-sides two =
      let count : Items → ℕ = node_count (256 - (level + 1)) in
      let both : count (on_side index level zeros ones) + count (on_side index level ones zeros) ≡ count zeros + count ones = elim (bit-cases index level) [
        | inl z ↦ rw z refl
        | inr o ↦ rw o (omega arith)
      ] in
      omega (arith, node_count-halves level (agreeing index level items) p two, both, ap count below-agrees, ap count beside-agrees)

-- no two items agree in all bits
pub few-at-last : (index : List ℕ) (level : ℕ) (items : Items) → length index ≡ 32 → IsPlacement items → 256 ≤ level → level ≤ 256 → length (agreeing index level items) ≤ 1
few-at-last index level items w placed past within =
    elim (cases_lt 1 (length (agreeing index level items))) [
      | inl more ↦ absurd (omega (arith, past, more-below index level items w placed within more))
      | inr few ↦ omega (arith, few)
    ]
