-- What becomes of a place: its node stays, a leaf or an empty node is made, or its two sides are.
use Rattle.std.proofs.Common.{◌≡◌, ◌≢◌, ◌==◌, get_or, ℕ, ◌+◌, ◌-◌, ◌<◌, ◌≤◌, cond, Bool, inl, inr, List, [], ◌∷◌, ◌++◌, length, refl, sym, ap, subst, ◌∙◌, arith}
use Rattle.std.specs.declared.rc.Rc.{Rc}
use Rattle.std.specs.declared.alloc.Global.{Global}
use Rattle.std.specs.declared.cmp.Ordering.{Ordering}
use Rattle.std.specs.declared.cmp.Ordering.TheVariants.{Less, Equal, Greater}
use Rattle.std.specs.Ordering.{match_ordering}
use Rattle.std.specs.List.Sorted.{IsStrictlySortedBy}
use Rattle.std.proofs.lemmas.Bool.{eq-eqb, ne_eqb}
use Rattle.encoding.specs.Bits.{bit, cut, with_one}
use Rattle.encoding.specs.Bytes.{bytes_cmp, Is32Bytes}
use Rattle.encoding.proofs.Agreement.{bit-cases}
use Rattle.encoding.proofs.Prefixes.{cut_zero, cut_one}
use Rattle.prefixtree.specs.Placement.{Item, Items, put, put_all}
use Rattle.prefixtree.specs.Node.{half, node_count}
use Rattle.prefixtree.specs.Under.{IsUnder}
use Rattle.prefixtree.specs.Changes.{made_count}
use Rattle.prefixtree.specs.Built.{contents, IsBuilt}
use Rattle.prefixtree.specs.Growth.{grown_count, parted, standing, AreSides, Comes, MayGrow}
use Rattle.prefixtree.specs.declared.node.Children.{Children}
use Rattle.prefixtree.specs.declared.node.Node.{Node}
use Rattle.prefixtree.specs.declared.node.Node.TheVariants.{Interior}
use Rattle.prefixtree.specs.declared.place.Before.{Before}
use Rattle.prefixtree.specs.declared.place.Before.TheVariants.{Made, Moved, Nothing, Stale}
use Rattle.prefixtree.specs.declared.place.Outcome.{Outcome}
use Rattle.prefixtree.specs.declared.place.Sides.{Sides}
use Rattle.prefixtree.proofs.Built.{sides}
use Rattle.prefixtree.proofs.Counts.{node_count-few}
use Rattle.prefixtree.proofs.Forks.{length-put-other}
use Rattle.prefixtree.proofs.Halves.{level-below, under-zeros, under-ones}
use Rattle.prefixtree.proofs.ItemLists.{length_le-put}
use Rattle.prefixtree.proofs.Order.{equal-same, same-equal}
use Rattle.prefixtree.proofs.Parts.{On, half-zeros, half-ones}
use Rattle.prefixtree.proofs.MadeCounts.{made_count-few, made_count-halves}
use Rattle.prefixtree.proofs.Several.{length_le-put_all, node_count-sides, put_all-none, put_all-sides}

module _ (of : List ℕ → List ℕ) (nonce prefix : List ℕ) (level : ℕ) (changes : Items) (under : IsUnder prefix level changes) where
  -- where nothing stands
  pub nothing-parted : level ≤ 256 → 1 < length changes → AreSides of nonce prefix level [] changes (node_count (256 - level) (put_all [] changes)) Nothing Nothing
  nothing-parted le several =
      let p : level < 256 = level-below prefix level changes le several under in
      let two : 1 < length (put_all [] changes) = omega (arith, several, ap length (put_all-none changes under.placement.ascending)) in
      record {
        below_256 = p;
        zeros = record { under = under-zeros prefix level changes p under; stands = tt };
        ones = record { under = under-ones prefix level changes p under; stands = tt };
        two = two;
        both = put_all-sides prefix level p changes under [] [] tt tt;
        counted = node_count-sides prefix level p changes under [] [] tt tt two;
      }

  -- where an item stands, which goes to the side of its bit
  module _ (p : level < 256) (moved : Rc Item Global) (w : Is32Bytes moved.value.0) (begins : cut moved.value.0 level ≡ prefix) (two : 1 < length (put_all (moved.value ∷ []) changes)) where
    item-zero : bit moved.value.0 level ≡ 0 → AreSides of nonce prefix level (moved.value ∷ []) changes (node_count (256 - level) (put_all (moved.value ∷ []) changes)) (Moved moved) Nothing
    item-zero z =
        let on : On prefix level 0 (moved.value ∷ []) = (record { long = w.0; begins = begins; next = z }, tt) in
        record {
          below_256 = p;
          zeros = record { under = under-zeros prefix level changes p under; stands = (w, cut_zero moved.value.0 level z ∙ begins) };
          ones = record { under = under-ones prefix level changes p under; stands = tt };
          two = two;
          both = put_all-sides prefix level p changes under (moved.value ∷ []) [] on tt;
          counted = node_count-sides prefix level p changes under (moved.value ∷ []) [] on tt two;
        }

    item-one : bit moved.value.0 level ≡ 1 → AreSides of nonce prefix level (moved.value ∷ []) changes (node_count (256 - level) (put_all (moved.value ∷ []) changes)) Nothing (Moved moved)
    item-one o =
        let on : On prefix level 1 (moved.value ∷ []) = (record { long = w.0; begins = begins; next = o }, tt) in
        record {
          below_256 = p;
          zeros = record { under = under-zeros prefix level changes p under; stands = tt };
          ones = record { under = under-ones prefix level changes p under; stands = (w, cut_one moved.value.0 level (omega (arith, p, w.0)) o ∙ ap (λ x. with_one x level) begins) };
          two = two;
          both = put_all-sides prefix level p changes under [] (moved.value ∷ []) tt on;
          counted = node_count-sides prefix level p changes under [] (moved.value ∷ []) tt on two;
        }

    item-sides : (outcome : Outcome Sides) → outcome ≡ cond (bit moved.value.0 level == 0) (parted (Moved moved) Nothing) (parted Nothing (Moved moved))
        → Comes of nonce prefix level (moved.value ∷ []) changes (node_count (256 - level) (put_all (moved.value ∷ []) changes)) outcome
    item-sides outcome e =
        let Wanted : Outcome Sides → Type 0 = Comes of nonce prefix level (moved.value ∷ []) changes (node_count (256 - level) (put_all (moved.value ∷ []) changes)) in
        elim (bit-cases moved.value.0 level) [
          | inl z ↦ subst Wanted (sym (e ∙ ap (λ (b : Bool). cond b (parted (Moved moved) Nothing) (parted Nothing (Moved moved))) (eq-eqb _ 0 z))) (item-zero z)
          | inr o ↦ subst Wanted (sym (e ∙ ap (λ (b : Bool). cond b (parted (Moved moved) Nothing) (parted Nothing (Moved moved))) (ne_eqb (bit moved.value.0 level) 0 (omega (arith, o))))) (item-one o)
        ]

  pub item-parted : level < 256 → (x : Item) → Is32Bytes x.0 → cut x.0 level ≡ prefix → 1 < length (put_all (x ∷ []) changes)
      → (outcome : Outcome Sides) → ((moved : Rc Item Global) × (moved.value ≡ x) × (outcome ≡ cond (bit x.0 level == 0) (parted (Moved moved) Nothing) (parted Nothing (Moved moved))))
      → Comes of nonce prefix level (x ∷ []) changes (node_count (256 - level) (put_all (x ∷ []) changes)) outcome
  item-parted p x w begins two outcome (moved, is, e) =
      subst (λ (y : Item). Is32Bytes y.0 → cut y.0 level ≡ prefix → 1 < length (put_all (y ∷ []) changes)
      → outcome ≡ cond (bit y.0 level == 0) (parted (Moved moved) Nothing) (parted Nothing (Moved moved))
      → Comes of nonce prefix level (y ∷ []) changes (node_count (256 - level) (put_all (y ∷ []) changes)) outcome)
      is (λ w' b' t' e'. item-sides p moved w' b' t' outcome e') w begins two e

  -- where an interior node stands
  pub node-parted : {n : Node} {children : Rc Children Global} {kept : List ℕ} (zero_side one_side : Node) → 0 < length changes → n ≡ Interior kept children → IsBuilt of nonce prefix level n
      → ((of : List ℕ → List ℕ) (nonce prefix : List ℕ) (level : ℕ) → IsBuilt of nonce prefix level children.value.zero_side → IsBuilt of nonce prefix level zero_side) → contents zero_side ≡ contents children.value.zero_side
      → ((of : List ℕ → List ℕ) (nonce prefix : List ℕ) (level : ℕ) → IsBuilt of nonce prefix level children.value.one_side → IsBuilt of nonce prefix level one_side) → contents one_side ≡ contents children.value.one_side
      → AreSides of nonce prefix level (contents n) changes (made_count (256 - level) (contents n) changes) (Made zero_side) (Made one_side)
  node-parted {n} {children} {kept} zero_side one_side some is built left left_items right right_items =
      let s = sides of nonce prefix level under.whole is built in
      let p : level < 256 = s.below_256 in
      let a : Node = children.value.zero_side in
      let b : Node = children.value.one_side in
      let zs : Items = half 0 level changes in
      let os : Items = half 1 level changes in
      let held : contents n ≡ contents a ++ contents b = ap contents is in
      let ez : half 0 level (contents n) ≡ contents zero_side = ap (half 0 level) held ∙ half-zeros prefix level (contents a) (contents b) s.zeros s.ones ∙ sym left_items in
      let eo : half 1 level (contents n) ≡ contents one_side = ap (half 1 level) held ∙ half-ones prefix level (contents a) (contents b) s.zeros s.ones ∙ sym right_items in
      let several : 1 < length (contents n) = rw held s.two in
      record {
        below_256 = p;
        zeros = record { under = under-zeros prefix level changes p under; stands = left of nonce prefix (level + 1) s.left };
        ones = record { under = under-ones prefix level changes p under; stands = right of nonce (with_one prefix level) (level + 1) s.right };
        two = omega (arith, several, length_le-put_all changes (contents n));
        both = ap (λ (l : Items). put_all l changes) held ∙ put_all-sides prefix level p changes under (contents a) (contents b) s.zeros s.ones
            ∙ (λ i. put_all (sym left_items i) zs ++ put_all (sym right_items i) os);
        counted = made_count-halves level (contents n) changes p several some
            ∙ (λ i. made_count (256 - (level + 1)) (ez i) zs + made_count (256 - (level + 1)) (eo i) os + 1);
      }

  -- where an interior node of another nonce stands
  pub stale-parted : {n : Node} {children : Rc Children Global} {kept : List ℕ} (was : List ℕ) (zero_side one_side : Node) → n ≡ Interior kept children → IsBuilt of was prefix level n
      → ((of : List ℕ → List ℕ) (nonce prefix : List ℕ) (level : ℕ) → IsBuilt of nonce prefix level children.value.zero_side → IsBuilt of nonce prefix level zero_side) → contents zero_side ≡ contents children.value.zero_side
      → ((of : List ℕ → List ℕ) (nonce prefix : List ℕ) (level : ℕ) → IsBuilt of nonce prefix level children.value.one_side → IsBuilt of nonce prefix level one_side) → contents one_side ≡ contents children.value.one_side
      → AreSides of nonce prefix level (contents n) changes (node_count (256 - level) (put_all (contents n) changes)) (Stale zero_side) (Stale one_side)
  stale-parted {n} {children} {kept} was zero_side one_side is built left left_items right right_items =
      let s = sides of was prefix level under.whole is built in
      let p : level < 256 = s.below_256 in
      let a : Node = children.value.zero_side in
      let b : Node = children.value.one_side in
      let zs : Items = half 0 level changes in
      let os : Items = half 1 level changes in
      let held : contents n ≡ contents a ++ contents b = ap contents is in
      let two : 1 < length (put_all (contents a ++ contents b) changes) = omega (arith, s.two, length_le-put_all changes (contents a ++ contents b)) in
      record {
        below_256 = p;
        zeros = record { under = under-zeros prefix level changes p under; stands = (was, left of was prefix (level + 1) s.left) };
        ones = record { under = under-ones prefix level changes p under; stands = (was, right of was (with_one prefix level) (level + 1) s.right) };
        two = rw held two;
        both = ap (λ (l : Items). put_all l changes) held ∙ put_all-sides prefix level p changes under (contents a) (contents b) s.zeros s.ones
            ∙ (λ i. put_all (sym left_items i) zs ++ put_all (sym right_items i) os);
        counted = ap (λ (l : Items). node_count (256 - level) (put_all l changes)) held ∙ node_count-sides prefix level p changes under (contents a) (contents b) s.zeros s.ones two
            ∙ (λ i. node_count (256 - (level + 1)) (put_all (sym left_items i) zs) + node_count (256 - (level + 1)) (put_all (sym right_items i) os) + 1);
      }

-- ---- one item and some changes

-- a change of the item's own index
pub put-same : (x c : Item) (changes : Items) → changes ≡ c ∷ [] → c.0 ≡ x.0 → put_all (x ∷ []) changes ≡ c ∷ []
put-same x c changes is e =
    ap (put_all (x ∷ [])) is
    ∙ ap (λ (o : Ordering). match_ordering o ((c.0, c.1) ∷ x ∷ []) ((x.0, c.1) ∷ []) (x ∷ (c.0, c.1) ∷ [])) (equal-same c.0 x.0 e)
    ∙ ap (λ (i : List ℕ). let all : Items = (i, c.1) ∷ [] in all) (sym e)

pub put-other : (x c : Item) (changes : Items) → changes ≡ c ∷ [] → c.0 ≢ x.0 → 1 < length (put_all (x ∷ []) changes)
put-other x c changes is other = omega (arith, ap (λ (l : Items). length (put_all (x ∷ []) l)) is, length-put-other c.0 c.1 x.0 x.1 other)

two-changes : (x c d : Item) → d.0 ≢ c.0 → 1 < length (put (put (x ∷ []) c.0 c.1) d.0 d.1)
two-changes x c d apart = by (bytes_cmp c.0 x.0) refl
  where
    by : (o : Ordering) → bytes_cmp c.0 x.0 ≡ o → 1 < length (put (put (x ∷ []) c.0 c.1) d.0 d.1)
    by Equal e =
        let same : c.0 ≡ x.0 = same-equal c.0 x.0 e in
        let one : put (x ∷ []) c.0 c.1 ≡ (x.0, c.1) ∷ [] = ap (λ (o : Ordering). match_ordering o ((c.0, c.1) ∷ x ∷ []) ((x.0, c.1) ∷ []) (x ∷ (c.0, c.1) ∷ [])) e in
        omega (arith, ap (λ (l : Items). length (put l d.0 d.1)) one, length-put-other d.0 d.1 x.0 c.1 (λ q. apart (q ∙ sym same)))
    by Less e = omega (arith, length_le-put d.0 d.1 (put (x ∷ []) c.0 c.1), length-put-other c.0 c.1 x.0 x.1 (λ q. absurd (cc (equal-same c.0 x.0 q, e))))
    by Greater e = omega (arith, length_le-put d.0 d.1 (put (x ∷ []) c.0 c.1), length-put-other c.0 c.1 x.0 x.1 (λ q. absurd (cc (equal-same c.0 x.0 q, e))))

pub put-several : (prefix : List ℕ) (level : ℕ) (x : Item) (changes : Items) → IsUnder prefix level changes → 1 < length changes → 1 < length (put_all (x ∷ []) changes)
unfolding IsStrictlySortedBy
put-several prefix level x [] under several = absurd (omega arith)
put-several prefix level x (c ∷ []) under several = absurd (omega arith)
put-several prefix level x (c ∷ d ∷ more) under several =
    let less = under.placement.ascending.0.0 in
    omega (arith, two-changes x c d (λ e. absurd (cc (equal-same c.0 d.0 (sym e), less))), length_le-put_all more (put (put (x ∷ []) c.0 c.1) d.0 d.1))

-- ---- one item, or none

pub nothing-vacant : (below : ℕ) (changes : Items) → length changes < 1 → (put_all [] changes ≡ []) × (node_count below (put_all [] changes) ≡ 1)
nothing-vacant below [] h = (refl, node_count-few below [] (omega arith))
nothing-vacant below (c ∷ cs) h = absurd (omega arith)

-- the leaf of the only change
pub nothing-single : (prefix : List ℕ) (level : ℕ) (changes : Items) (change item : Item) → 1 ≤ length changes → length changes < 2 → change ≡ get_or changes 0 change → item ≡ change → IsUnder prefix level changes
    → (put_all [] changes ≡ item ∷ []) × Is32Bytes item.0 × (cut item.0 level ≡ prefix) × (node_count (256 - level) (put_all [] changes) ≡ 1)
nothing-single prefix level [] change item some one is e under = absurd (omega arith)
nothing-single prefix level (c ∷ []) change item some one is e under =
    let same : c ≡ item = sym (e ∙ is) in (
      ap (λ (x : Item). let all : Items = x ∷ [] in all) same,
      subst (λ (x : Item). Is32Bytes x.0) same under.placement.indices.0,
      subst (λ (x : Item). cut x.0 level ≡ prefix) same under.prefixed.0,
      node_count-few (256 - level) (put_all [] (c ∷ [])) (omega arith),
    )
nothing-single prefix level (c ∷ d ∷ cs) change item some one is e under = absurd (omega arith)

pub only : (changes : Items) (change : Item) → 1 ≤ length changes → length changes < 2 → change ≡ get_or changes 0 change → changes ≡ change ∷ []
only [] change some one is = absurd (omega arith)
only (c ∷ []) change some one is = ap (λ (x : Item). let all : Items = x ∷ [] in all) (sym is)
only (c ∷ d ∷ cs) change some one is = absurd (omega arith)

-- the leaf of the item, where no change comes
pub item-kept : (prefix : List ℕ) (level : ℕ) (x item : Item) (changes : Items) → length changes < 1 → item ≡ x → Is32Bytes x.0 → cut x.0 level ≡ prefix
    → (put_all (x ∷ []) changes ≡ item ∷ []) × Is32Bytes item.0 × (cut item.0 level ≡ prefix) × (node_count (256 - level) (put_all (x ∷ []) changes) ≡ 1)
item-kept prefix level x item [] none e w begins = (
  ap (λ (y : Item). let all : Items = y ∷ [] in all) (sym e),
  subst (λ (y : Item). Is32Bytes y.0) (sym e) w,
  subst (λ (y : Item). cut y.0 level ≡ prefix) (sym e) begins,
  node_count-few (256 - level) (x ∷ []) (omega arith),
)
item-kept prefix level x item (c ∷ cs) none e w begins = absurd (omega arith)

-- the leaf of a change for the item's own index
pub item-replaced : (prefix : List ℕ) (level : ℕ) (x change item : Item) (changes : Items) → changes ≡ change ∷ [] → item ≡ change → change.0 ≡ x.0 → Is32Bytes x.0 → cut x.0 level ≡ prefix
    → (put_all (x ∷ []) changes ≡ item ∷ []) × Is32Bytes item.0 × (cut item.0 level ≡ prefix) × (node_count (256 - level) (put_all (x ∷ []) changes) ≡ 1)
item-replaced prefix level x change item changes is e same w begins =
    let index : item.0 ≡ x.0 = ap (λ (y : Item). y.0) e ∙ same in
    let one : put_all (x ∷ []) changes ≡ change ∷ [] = put-same x change changes is same in (
      one ∙ ap (λ (y : Item). let all : Items = y ∷ [] in all) (sym e),
      subst Is32Bytes (sym index) w,
      subst (λ (i : List ℕ). cut i level ≡ prefix) (sym index) begins,
      node_count-few (256 - level) (put_all (x ∷ []) changes) (omega (arith, ap length one)),
    )

-- what becomes of at most one item comes of the node that has it
pub comes-few : (of : List ℕ → List ℕ) (nonce prefix : List ℕ) (level : ℕ) (held items changes : Items) (outcome : Outcome Sides) → held ≡ items → length items ≤ 1 → 0 < length changes
    → Comes of nonce prefix level items changes (node_count (256 - level) (put_all items changes)) outcome
    → Comes of nonce prefix level held changes (made_count (256 - level) held changes) outcome
comes-few of nonce prefix level held items changes outcome e few some h =
    subst (λ (l : Items). Comes of nonce prefix level l changes (made_count (256 - level) l changes) outcome) (sym e)
    (subst (λ (n : ℕ). Comes of nonce prefix level items changes n outcome) (sym (made_count-few (256 - level) items changes few some)) h)

pub put_all-no : (items changes : Items) → length changes ≡ 0 → put_all items changes ≡ items
put_all-no items [] h = refl
put_all-no items (c ∷ cs) h = absurd (omega arith)

-- what becomes of a place, told of one outcome
pub comes-as : (prefix : List ℕ) (level : ℕ) (before : Before) (changes : Items) (outcome wanted : Outcome Sides)
    → ((of : List ℕ → List ℕ) (nonce prefix : List ℕ) → MayGrow of nonce prefix level before changes
    → Comes of nonce prefix level (standing before) changes (grown_count (256 - level) before changes) outcome)
    → outcome ≡ wanted → (of : List ℕ → List ℕ) (nonce : List ℕ) → MayGrow of nonce prefix level before changes
    → Comes of nonce prefix level (standing before) changes (grown_count (256 - level) before changes) wanted
comes-as prefix level before changes outcome wanted h e of nonce is =
    subst (λ (o : Outcome Sides). Comes of nonce prefix level (standing before) changes (grown_count (256 - level) before changes) o) e (h of nonce prefix is)
