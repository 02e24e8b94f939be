-- Many items put in: into two parts, and into none.
use Rattle.std.proofs.Common.{◌≡◌, ℕ, ◌+◌, ◌-◌, ◌<◌, ◌≤◌, List, [], ◌∷◌, ◌++◌, length, refl, sym, ap, ◌∙◌, arith}
use Rattle.std.specs.declared.cmp.Ordering.{Ordering}
use Rattle.std.specs.declared.cmp.Ordering.TheVariants.{Less}
use Rattle.std.specs.Ordering.{match_ordering}
use Rattle.std.specs.List.{AllByRecursion}
use Rattle.std.specs.List.Sorted.{IsStrictlySortedBy}
use Rattle.std.specs.Map.{keys_of}
use Rattle.encoding.specs.Bits.{cut, with_one}
use Rattle.encoding.specs.Bytes.{bytes_cmp, Is32Bytes}
use Rattle.prefixtree.specs.Placement.{Item, Items, put, put_all, IsPlacement}
use Rattle.prefixtree.specs.Node.{half, node_count}
use Rattle.prefixtree.specs.Under.{IsPrefix, IsUnder}
use Rattle.prefixtree.proofs.Counts.{node_count-halves}
use Rattle.prefixtree.proofs.ItemLists.{all-put, length_le-put}
use Rattle.prefixtree.proofs.Order.{greater-less}
use Rattle.prefixtree.proofs.Parts.{Begin, IsOn, On, on-zero_side, on-one_side, half-zeros, half-ones}
use Rattle.prefixtree.proofs.Places.{placement_put}
use Rattle.prefixtree.proofs.Splits.{put-zeros, put-ones, begin-put}
use Rattle.prefixtree.proofs.Halves.{begin-IsUnder, under-zeros, under-ones}
use Rattle.prefixtree.proofs.Rejoined.{halves_append}

pub put_all-append : (zs more items : Items) → put_all items (zs ++ more) ≡ put_all (put_all items zs) more
put_all-append [] more items = refl
put_all-append (z ∷ zs) more items = put_all-append zs more (put items z.0 z.1)

-- ---- into two parts, each its own

module _ (prefix : List ℕ) (level : ℕ) (p : level < 256) where
  on-put : (b : ℕ) (z : Item) (xs : Items) → IsOn prefix level b z.0 → On prefix level b xs → On prefix level b (put xs z.0 z.1)
  on-put b z xs is h = all-put (IsOn prefix level b) z.0 z.1 xs is h

  put_all-zeros : (zs xs ys : Items) → On prefix level 0 zs → On prefix level 0 xs → On prefix level 1 ys → put_all (xs ++ ys) zs ≡ put_all xs zs ++ ys
  put_all-zeros [] xs ys g h k = refl
  put_all-zeros (z ∷ zs) xs ys g h k =
      ap (λ (l : Items). put_all l zs) (put-zeros prefix level z.0 xs ys p h k z.1 g.0)
      ∙ put_all-zeros zs (put xs z.0 z.1) ys g.1 (on-put 0 z xs g.0 h) k

  put_all-ones : (zs xs ys : Items) → On prefix level 1 zs → On prefix level 0 xs → On prefix level 1 ys → put_all (xs ++ ys) zs ≡ xs ++ put_all ys zs
  put_all-ones [] xs ys g h k = refl
  put_all-ones (z ∷ zs) xs ys g h k =
      ap (λ (l : Items). put_all l zs) (put-ones prefix level z.0 xs ys p h k z.1 g.0)
      ∙ put_all-ones zs xs (put ys z.0 z.1) g.1 h (on-put 1 z ys g.0 k)

  pub all-on-put_all : (b : ℕ) (zs xs : Items) → On prefix level b zs → On prefix level b xs → On prefix level b (put_all xs zs)
  all-on-put_all b [] xs g h = h
  all-on-put_all b (z ∷ zs) xs g h = all-on-put_all b zs (put xs z.0 z.1) g.1 (on-put b z xs g.0 h)

  pub put_all-parts : (zeros ones xs ys : Items) → On prefix level 0 zeros → On prefix level 1 ones → On prefix level 0 xs → On prefix level 1 ys →
      put_all (xs ++ ys) (zeros ++ ones) ≡ put_all xs zeros ++ put_all ys ones
  put_all-parts zeros ones xs ys f g h k =
      put_all-append zeros ones (xs ++ ys)
      ∙ ap (λ (l : Items). put_all l ones) (put_all-zeros zeros xs ys f h k)
      ∙ put_all-ones ones (put_all xs zeros) ys g (all-on-put_all 0 zeros xs f h) k

-- ---- into none

put_all-past : (x : Item) (ys cs : Items) → AllByRecursion (λ index. bytes_cmp x.0 index ≡ Less) (keys_of cs) → put_all (x ∷ ys) cs ≡ x ∷ put_all ys cs
put_all-past x ys [] h = refl
put_all-past x ys (c ∷ cs) h =
    ap (λ (o : Ordering). put_all (match_ordering o ((c.0, c.1) ∷ x ∷ ys) ((x.0, c.1) ∷ ys) (x ∷ put ys c.0 c.1)) cs) (greater-less c.0 x.0 h.0)
    ∙ put_all-past x (put ys c.0 c.1) cs h.1

pub put_all-none : (cs : Items) → IsStrictlySortedBy bytes_cmp (keys_of cs) → put_all [] cs ≡ cs
unfolding IsStrictlySortedBy
put_all-none [] h = refl
put_all-none (c ∷ cs) h = put_all-past c [] cs h.0 ∙ ap (λ (l : Items). c ∷ l) (put_all-none cs h.1)

-- ---- below a prefix, where the items that stand there are two parts

module _ (prefix : List ℕ) (level : ℕ) (p : level < 256) (changes : Items) (under : IsUnder prefix level changes) (xs ys : Items) (h : On prefix level 0 xs) (k : On prefix level 1 ys) where
  on-zeros : On prefix level 0 (half 0 level changes)
  on-zeros = on-zero_side prefix level (half 0 level changes) p under.whole (begin-IsUnder prefix (level + 1) (half 0 level changes) (under-zeros prefix level changes p under))

  on-ones : On prefix level 1 (half 1 level changes)
  on-ones = on-one_side prefix level (half 1 level changes) p under.whole (begin-IsUnder (with_one prefix level) (level + 1) (half 1 level changes) (under-ones prefix level changes p under))

  pub put_all-sides : put_all (xs ++ ys) changes ≡ put_all xs (half 0 level changes) ++ put_all ys (half 1 level changes)
  put_all-sides =
      ap (put_all (xs ++ ys)) (sym (halves_append prefix level changes p under))
      ∙ put_all-parts prefix level p (half 0 level changes) (half 1 level changes) xs ys on-zeros on-ones h k

  pub node_count-sides : 1 < length (put_all (xs ++ ys) changes) → node_count (256 - level) (put_all (xs ++ ys) changes)
      ≡ node_count (256 - (level + 1)) (put_all xs (half 0 level changes)) + node_count (256 - (level + 1)) (put_all ys (half 1 level changes)) + 1
  node_count-sides two =
      let left = all-on-put_all prefix level p 0 (half 0 level changes) xs on-zeros h in
      let right = all-on-put_all prefix level p 1 (half 1 level changes) ys on-ones k in
      let zeros : half 0 level (put_all (xs ++ ys) changes) ≡ put_all xs (half 0 level changes) = ap (half 0 level) put_all-sides ∙ half-zeros prefix level _ _ left right in
      let ones : half 1 level (put_all (xs ++ ys) changes) ≡ put_all ys (half 1 level changes) = ap (half 1 level) put_all-sides ∙ half-ones prefix level _ _ left right in
      node_count-halves level (put_all (xs ++ ys) changes) p two
      ∙ (λ i. node_count (256 - (level + 1)) (zeros i) + node_count (256 - (level + 1)) (ones i) + 1)

-- ---- what stands below a prefix then

keys-begin : (prefix : List ℕ) (level : ℕ) (xs : Items) → Begin prefix level xs → AllByRecursion (λ index. cut index level ≡ prefix) (keys_of xs)
keys-begin prefix level [] h = tt
keys-begin prefix level (x ∷ xs) h = (h.0.1, keys-begin prefix level xs h.1)

pub under-put_all : (prefix : List ℕ) (level : ℕ) (cs items : Items) → IsUnder prefix level cs → IsUnder prefix level items → IsUnder prefix level (put_all items cs)
under-put_all prefix level cs items new old = go cs items (begin-IsUnder prefix level cs new) old.placement (begin-IsUnder prefix level items old)
  where
    go : (cs items : Items) → Begin prefix level cs → IsPlacement items → Begin prefix level items → IsUnder prefix level (put_all items cs)
    go [] items g p b = record { whole = old.whole; placement = p; prefixed = keys-begin prefix level items b }
    go (c ∷ cs) items g p b = go cs (put items c.0 c.1) g.1 (placement_put items c.0 c.1 g.0.0 p) (begin-put prefix level c.0 c.1 items g.0.0 g.0.1 b)

pub length_le-put_all : (cs items : Items) → length items ≤ length (put_all items cs)
length_le-put_all [] items = omega arith
length_le-put_all (c ∷ cs) items = omega (arith, length_le-put c.0 c.1 items, length_le-put_all cs (put items c.0 c.1))

pub half-put_all : (prefix : List ℕ) (level : ℕ) (items changes : Items) → level < 256 → IsUnder prefix level items → IsUnder prefix level changes →
    (half 0 level (put_all items changes) ≡ put_all (half 0 level items) (half 0 level changes))
    × (half 1 level (put_all items changes) ≡ put_all (half 1 level items) (half 1 level changes))
half-put_all prefix level items changes p old new =
    let xs : Items = half 0 level items in
    let ys : Items = half 1 level items in
    let zeros : Items = half 0 level changes in
    let ones : Items = half 1 level changes in
    let on_xs = on-zero_side prefix level xs p old.whole (begin-IsUnder prefix (level + 1) xs (under-zeros prefix level items p old)) in
    let on_ys = on-one_side prefix level ys p old.whole (begin-IsUnder (with_one prefix level) (level + 1) ys (under-ones prefix level items p old)) in
    let on_zeros = on-zero_side prefix level zeros p old.whole (begin-IsUnder prefix (level + 1) zeros (under-zeros prefix level changes p new)) in
    let on_ones = on-one_side prefix level ones p old.whole (begin-IsUnder (with_one prefix level) (level + 1) ones (under-ones prefix level changes p new)) in
    let parts : put_all items changes ≡ put_all xs zeros ++ put_all ys ones =
    (λ i. put_all (sym (halves_append prefix level items p old) i) (sym (halves_append prefix level changes p new) i))
    ∙ put_all-parts prefix level p zeros ones xs ys on_zeros on_ones on_xs on_ys in
    let below_zeros = all-on-put_all prefix level p 0 zeros xs on_zeros on_xs in
    let below_ones = all-on-put_all prefix level p 1 ones ys on_ones on_ys in (
      ap (half 0 level) parts ∙ half-zeros prefix level (put_all xs zeros) (put_all ys ones) below_zeros below_ones,
      ap (half 1 level) parts ∙ half-ones prefix level (put_all xs zeros) (put_all ys ones) below_zeros below_ones,
    )

pub under-one : (prefix : List ℕ) (level : ℕ) (x : Item) → IsPrefix prefix level → Is32Bytes x.0 → cut x.0 level ≡ prefix → IsUnder prefix level (x ∷ [])
unfolding IsStrictlySortedBy
under-one prefix level x is w b = record { whole = is; placement = record { ascending = (tt, tt); indices = (w, tt) }; prefixed = (b, tt) }
