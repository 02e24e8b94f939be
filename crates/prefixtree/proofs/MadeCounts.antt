-- How many nodes are made for changes: at most those of the new tree, and for one change at most two
-- for each level of its way.
use Rattle.std.proofs.Common.{◌≡◌, ◌≢◌, ℕ, zero, suc, ◌+◌, ◌-◌, ◌*◌, ◌<◌, ◌≤◌, List, [], ◌∷◌, length, refl, sym, ap, ◌∙◌, arith, inl, inr, IsSome}
use Rattle.std.specs.declared.cmp.Ordering.{Ordering}
use Rattle.std.specs.declared.cmp.Ordering.TheVariants.{Less, Equal, Greater}
use Rattle.std.proofs.lemmas.Bool.{cases_lt}
use Rattle.encoding.specs.Bits.{bit, cut, with_one}
use Rattle.encoding.specs.Bytes.{bytes_cmp, Is32Bytes}
use Rattle.encoding.proofs.Agreement.{agree_in_next, bit-cases}
use Rattle.encoding.proofs.Prefixes.{cut_zero, cut_one}
use Rattle.prefixtree.specs.Placement.{Items, IsPlacement, commitment_of, put, put_all}
use Rattle.prefixtree.specs.Node.{half, level_of, node_count}
use Rattle.prefixtree.specs.Paths.{agreeing, EndsAt}
use Rattle.prefixtree.specs.Under.{IsUnder}
use Rattle.prefixtree.specs.Changes.{made_count}
use Rattle.prefixtree.proofs.Built.{cut-root, prefix-cut}
use Rattle.prefixtree.proofs.Counts.{node_count-few, node_count-halves}
use Rattle.prefixtree.proofs.Ends.{further}
use Rattle.prefixtree.proofs.Forks.{differ_below, ends_below, length-put-other}
use Rattle.prefixtree.proofs.Halves.{begin-IsUnder, level-below, under-ones, under-root, under-zeros}
use Rattle.prefixtree.proofs.Order.{equal-same, not_found, put-same, same-equal}
use Rattle.prefixtree.proofs.Parts.{on-one_side, on-zero_side}
use Rattle.prefixtree.proofs.Several.{half-put_all, length_le-put_all, under-one}
use Rattle.prefixtree.proofs.Splits.{Splits, splits-ones, splits-zeros}
use Rattle.prefixtree.proofs.Rejoined.{halves_append}

pub made_count-none : (below : ℕ) (items changes : Items) → length changes ≡ 0 → made_count below items changes ≡ 0
unfolding made_count
made_count-none zero [] [] h = refl
made_count-none zero (x ∷ []) [] h = refl
made_count-none zero (x ∷ y ∷ items) [] h = refl
made_count-none (suc below) [] [] h = refl
made_count-none (suc below) (x ∷ []) [] h = refl
made_count-none (suc below) (x ∷ y ∷ items) [] h = refl
made_count-none below items (c ∷ cs) h = absurd (omega arith)

pub made_count-few : (below : ℕ) (items changes : Items) → length items ≤ 1 → 0 < length changes → made_count below items changes ≡ node_count below (put_all items changes)
unfolding made_count
made_count-few below items [] h k = absurd (omega arith)
made_count-few zero [] (c ∷ cs) h k = refl
made_count-few zero (x ∷ []) (c ∷ cs) h k = refl
made_count-few (suc below) [] (c ∷ cs) h k = refl
made_count-few (suc below) (x ∷ []) (c ∷ cs) h k = refl
made_count-few below (x ∷ y ∷ items) (c ∷ cs) h k = absurd (omega arith)

made_count-more : (below : ℕ) (items changes : Items) → 1 < length items → 0 < length changes →
    made_count (suc below) items changes
    ≡ made_count below (half 0 (level_of (suc below)) items) (half 0 (level_of (suc below)) changes) + made_count below (half 1 (level_of (suc below)) items) (half 1 (level_of (suc below)) changes) + 1
unfolding made_count
made_count-more below items [] h k = absurd (omega arith)
made_count-more below [] (c ∷ cs) h k = absurd (omega arith)
made_count-more below (x ∷ []) (c ∷ cs) h k = absurd (omega arith)
made_count-more below (x ∷ y ∷ items) (c ∷ cs) h k = refl

pub made_count-halves : (level : ℕ) (items changes : Items) → level < 256 → 1 < length items → 0 < length changes →
    made_count (256 - level) items changes
    ≡ made_count (256 - (level + 1)) (half 0 level items) (half 0 level changes) + made_count (256 - (level + 1)) (half 1 level items) (half 1 level changes) + 1
made_count-halves level items changes p two some =
    let room : 256 - level ≡ suc (256 - (level + 1)) = omega arith in
    let at : 256 - suc (256 - (level + 1)) ≡ level = omega arith in
    ap (λ n. made_count n items changes) room ∙ made_count-more (256 - (level + 1)) items changes two some
    ∙ ap (λ l. made_count (256 - (level + 1)) (half 0 l items) (half 0 l changes) + made_count (256 - (level + 1)) (half 1 l items) (half 1 l changes) + 1) at

-- no more than the new tree has
most : (left : ℕ) (prefix : List ℕ) (level : ℕ) (items changes : Items) → level + left ≡ 256 → IsUnder prefix level items → IsUnder prefix level changes →
    made_count (256 - level) items changes ≤ node_count (256 - level) (put_all items changes)
most zero prefix level items changes at old new = elim (cases_lt 0 (length changes)) [
  | inr none ↦ omega (arith, made_count-none (256 - level) items changes (omega (arith, none)))
  | inl some ↦ elim (cases_lt 1 (length items)) [
    | inr few ↦ omega (arith, made_count-few (256 - level) items changes few some)
    | inl two ↦ absurd (omega (arith, at, level-below prefix level items (omega (arith, at)) two old))
  ]
]
most (suc left) prefix level items changes at old new = elim (cases_lt 0 (length changes)) [
  | inr none ↦ omega (arith, made_count-none (256 - level) items changes (omega (arith, none)))
  | inl some ↦ elim (cases_lt 1 (length items)) [
    | inr few ↦ omega (arith, made_count-few (256 - level) items changes few some)
    | inl two ↦
        let p : level < 256 = omega (arith, at) in
        let parts = half-put_all prefix level items changes p old new in
        let zeros = most left prefix (level + 1) (half 0 level items) (half 0 level changes) (omega (arith, at)) (under-zeros prefix level items p old) (under-zeros prefix level changes p new) in
        let ones = most left (with_one prefix level) (level + 1) (half 1 level items) (half 1 level changes) (omega (arith, at)) (under-ones prefix level items p old) (under-ones prefix level changes p new) in
        omega (
          arith,
          made_count-halves level items changes p two some,
          node_count-halves level (put_all items changes) p (omega (arith, two, length_le-put_all changes items)),
          zeros,
          ones,
          ap (node_count (256 - (level + 1))) parts.0,
          ap (node_count (256 - (level + 1))) parts.1,
        )
  ]
]

pub made-most : (items changes : Items) → IsPlacement items → IsPlacement changes → made_count 256 items changes ≤ node_count 256 (put_all items changes)
made-most items changes old new = most 256 _ 0 items changes refl (under-root items old) (under-root changes new)

-- the nodes over two different leaves
forked : (left : ℕ) (i c j d : List ℕ) (level end : ℕ) → level + left ≡ 256 → Is32Bytes i → Is32Bytes j → i ≢ j → cut i level ≡ cut j level →
    level ≤ end → length (agreeing i end (put ((j, d) ∷ []) i c)) ≤ 1 → node_count (256 - level) (put ((j, d) ∷ []) i c) + 2 * level ≤ 2 * end + 1
forked zero i c j d level end at w v apart agree le few = absurd (omega (arith, at, differ_below i j level w v apart (omega (arith, at)) agree))
forked (suc left) i c j d level end at w v apart agree le few =
    let p : level < 256 = omega (arith, at) in
    let all : Items = put ((j, d) ∷ []) i c in
    let prefix = prefix-cut i level w.0 in
    let parts = half-put_all (cut i level) level ((j, d) ∷ []) ((i, c) ∷ []) p (under-one (cut i level) level (j, d) prefix v (sym agree)) (under-one (cut i level) level (i, c) prefix w refl) in
    let count = node_count-halves level all p (omega (arith, length-put-other i c j d apart)) in
    let below : level < end = ends_below i c j d level end w v apart agree le few in
    let next = λ (same : bit i level ≡ bit j level). forked left i c j d (level + 1) end (omega (arith, at)) w v apart
    (agree_in_next i j level (omega (arith, p, w.0)) (omega (arith, p, v.0)) agree same) (omega (arith, below)) few in
    let few_below = λ (items : Items) (h : length items ≤ 1). node_count-few (256 - (level + 1)) items h in
    elim (bit-cases i level) [
      | inl iz ↦ elim (bit-cases j level) [
        | inl jz ↦
            let zeros : half 0 level all ≡ all = parts.0 ∙ rw (iz, jz) refl in
            let ones : half 1 level all ≡ [] = parts.1 ∙ rw (iz, jz) refl in
            omega (arith, count, next (iz ∙ sym jz), ap (node_count (256 - (level + 1))) zeros, ap (node_count (256 - (level + 1))) ones, few_below [] (omega arith))
        | inr jo ↦
            let zeros : half 0 level all ≡ (i, c) ∷ [] = parts.0 ∙ rw (iz, jo) refl in
            let ones : half 1 level all ≡ (j, d) ∷ [] = parts.1 ∙ rw (iz, jo) refl in
            omega (arith, count, below, few_below (half 0 level all) (omega (arith, ap length zeros)), few_below (half 1 level all) (omega (arith, ap length ones)))
      ]
      | inr io ↦ elim (bit-cases j level) [
        | inl jz ↦
            let zeros : half 0 level all ≡ (j, d) ∷ [] = parts.0 ∙ rw (io, jz) refl in
            let ones : half 1 level all ≡ (i, c) ∷ [] = parts.1 ∙ rw (io, jz) refl in
            omega (arith, count, below, few_below (half 0 level all) (omega (arith, ap length zeros)), few_below (half 1 level all) (omega (arith, ap length ones)))
        | inr jo ↦
            let zeros : half 0 level all ≡ [] = parts.0 ∙ rw (io, jo) refl in
            let ones : half 1 level all ≡ all = parts.1 ∙ rw (io, jo) refl in
            omega (arith, count, next (io ∙ sym jo), ap (node_count (256 - (level + 1))) zeros, ap (node_count (256 - (level + 1))) ones, few_below [] (omega arith))
      ]
    ]

-- what one change makes, from a level of its way down to any at which its index is alone
pub record IsOneMade (index c : List ℕ) (level end : ℕ) (items : Items) : Type 0 where
  pub new : made_count (256 - level) items ((index, c) ∷ []) + 2 * level ≤ 2 * end + 1
  pub replaced : IsSome (commitment_of items index) → made_count (256 - level) items ((index, c) ∷ []) + level ≤ end + 1

one-few : (left : ℕ) (index c : List ℕ) (level end : ℕ) (items : Items) → level + left ≡ 256 → Is32Bytes index → IsUnder (cut index level) level items → length items ≤ 1 →
    level ≤ end → length (agreeing index end (put items index c)) ≤ 1 → IsOneMade index c level end items
one-few left index c level end [] at w under h le few =
    let one = made_count-few (256 - level) [] ((index, c) ∷ []) h (omega arith) in
    let count = node_count-few (256 - level) ((index, c) ∷ []) (omega arith) in
    record { new = omega (arith, le, one, count); replaced = λ s. omega (arith, le, one, count) }
one-few left index c level end (x ∷ []) at w under h le few =
    let one = made_count-few (256 - level) (x ∷ []) ((index, c) ∷ []) h (omega arith) in
    by (bytes_cmp index x.0) refl one
  where
    other : index ≢ x.0 → made_count (256 - level) (x ∷ []) ((index, c) ∷ []) ≡ node_count (256 - level) (put (x ∷ []) index c) → IsOneMade index c level end (x ∷ [])
    other apart one =
        let count = forked left index c x.0 x.1 level end at w under.placement.indices.0 apart (sym under.prefixed.0) le few in
        record { new = omega (arith, one, count); replaced = λ s. not_found index x.0 x.1 _ _ apart s }

    by : (o : Ordering) → bytes_cmp index x.0 ≡ o → made_count (256 - level) (x ∷ []) ((index, c) ∷ []) ≡ node_count (256 - level) (put (x ∷ []) index c) → IsOneMade index c level end (x ∷ [])
    by Equal e one =
        let same : put (x ∷ []) index c ≡ (index, c) ∷ [] = put-same index c x.0 x.1 (same-equal index x.0 e) in
        let count = node_count-few (256 - level) (put (x ∷ []) index c) (omega (arith, ap length same)) in
        record { new = omega (arith, le, one, count); replaced = λ s. omega (arith, le, one, count) }
    by Less e one = other (λ same. let is = equal-same index x.0 same in absurd (cc (e, is))) one
    by Greater e one = other (λ same. let is = equal-same index x.0 same in absurd (cc (e, is))) one
one-few left index c level end (x ∷ y ∷ items) at w under h le few = absurd (omega (arith, h))

one-made : (left : ℕ) (index c : List ℕ) (level end : ℕ) (items : Items) → level + left ≡ 256 → Is32Bytes index → IsUnder (cut index level) level items →
    level ≤ end → length (agreeing index end (put items index c)) ≤ 1 → IsOneMade index c level end items
one-made zero index c level end items at w under le few = elim (cases_lt 1 (length items)) [
  | inr h ↦ one-few zero index c level end items at w under h le few
  | inl two ↦ absurd (omega (arith, at, level-below (cut index level) level items (omega (arith, at)) two under))
]
one-made (suc left) index c level end items at w under le few = elim (cases_lt 1 (length items)) [
  | inr h ↦ one-few (suc left) index c level end items at w under h le few
  | inl two ↦
      let p : level < 256 = omega (arith, at) in
      let prefix : List ℕ = cut index level in
      let xs : Items = half 0 level items in
      let ys : Items = half 1 level items in
      let zeros = under-zeros prefix level items p under in
      let ones = under-ones prefix level items p under in
      let on_xs = on-zero_side prefix level xs p under.whole (begin-IsUnder prefix (level + 1) xs zeros) in
      let on_ys = on-one_side prefix level ys p under.whole (begin-IsUnder (with_one prefix level) (level + 1) ys ones) in
      let whole = halves_append prefix level items p under in
      let begin = rw (← whole) at (begin-IsUnder prefix level items under) in
      let count = made_count-halves level items ((index, c) ∷ []) p two (omega arith) in
      elim (bit-cases index level) [
        | inl z ↦
            let s : Splits index level items xs ys = rw whole at (splits-zeros level index xs ys p w on_xs on_ys begin z) in
            let next = further index c level end items xs ys s two le few in
            let lower = one-made left index c (level + 1) end xs (omega (arith, at)) w (rw (cut_zero index level z) zeros) (omega (arith, next.deeper)) next.few in
            let here = rw z at count in
            let none = made_count-none (256 - (level + 1)) ys [] refl in
            record { new = omega (arith, here, none, lower.new); replaced = λ f. omega (arith, here, none, lower.replaced (rw s.found at f)) }
        | inr o ↦
            let s : Splits index level items ys xs = rw whole at (splits-ones level index xs ys p w on_xs on_ys begin o) in
            let next = further index c level end items ys xs s two le few in
            let lower = one-made left index c (level + 1) end ys (omega (arith, at)) w (rw (cut_one index level (omega (arith, p, w.0)) o) ones) (omega (arith, next.deeper)) next.few in
            let here = rw o at count in
            let none = made_count-none (256 - (level + 1)) xs [] refl in
            record { new = omega (arith, here, none, lower.new); replaced = λ f. omega (arith, here, none, lower.replaced (rw s.found at f)) }
      ]
]

pub made-one : (items : Items) (index c : List ℕ) (level : ℕ) → IsPlacement items → Is32Bytes index → EndsAt index (put items index c) level → IsOneMade index c 0 level items
made-one items index c level placed w ends = one-made 256 index c 0 level items refl w (rw (cut-root index w) (under-root items placed)) (omega arith) ends.few
