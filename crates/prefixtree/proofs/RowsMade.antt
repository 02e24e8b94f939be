-- The nodes of a row of places, made over those of the row below.
use Rattle.std.proofs.Common.{◌≡◌, ℕ, suc, ◌+◌, ◌<◌, ◌≤◌, List, [], ◌∷◌, ◌++◌, length, map, drop, refl, sym, ap, subst, ◌∙◌, arith, add-zero}
use Rattle.std.proofs.lemmas.List.{append-nil, drop_all}
use Rattle.encoding.specs.Bits.{with_one}
use Rattle.nodehash.specs.NodeTexts.{interior_bytes}
use Rattle.prefixtree.specs.Placement.{Item, Items}
use Rattle.prefixtree.specs.Built.{contents, kept, IsBuilt}
use Rattle.prefixtree.specs.Rows.{digests_of, items_of, row_count, row_digests, row_sides, row_texts, sides_of, AreBuilt, AreMade, ArePlaces, AreSplit, IsSame, Outcomes}
use Rattle.prefixtree.specs.declared.node.Node.{Node}
use Rattle.prefixtree.specs.declared.node.Node.TheVariants.{Empty, Leaf, Interior'}
use Rattle.prefixtree.specs.declared.place.Outcome.{Outcome}
use Rattle.prefixtree.specs.declared.place.Outcome.TheVariants.{Kept, Vacant, Single, Parted}
use Rattle.prefixtree.specs.declared.row.Place.{Place}

-- ---- what is made at one place, and at those after it

pub kept-made : (outcome : Outcome (Unit {0})) (node other : Node) (digests : List (List ℕ)) (used : ℕ) (lower : List Node) (outcomes : Outcomes) (nodes : List Node) → outcome ≡ Kept node → IsSame node other
    → AreMade outcomes (drop (used + digests_of outcome) digests) (drop (sides_of outcome) lower) nodes → AreMade (outcome ∷ outcomes) (drop used digests) lower (other ∷ nodes)
kept-made outcome node other digests used lower outcomes nodes is same =
    subst (λ (s : Outcome (Unit {0})). AreMade outcomes (drop (used + digests_of s) digests) (drop (sides_of s) lower) nodes → AreMade (s ∷ outcomes) (drop used digests) lower (other ∷ nodes)) (sym is)
    (λ made. (same, subst (λ (n : ℕ). AreMade outcomes (drop n digests) lower nodes) (add-zero used) made))

-- a list of no element
pub none : {X : Type 0} (xs : List X) → length xs ≡ 0 → xs ≡ []
none [] h = refl
none (x ∷ xs) h = absurd (omega arith)

-- the row is complete where no place is left
pub made-end : (digests : List (List ℕ)) (used : ℕ) (left outcomes : Outcomes) (below lower : List Node) (nodes : List Node) → left ≡ [] → used + row_digests left ≡ length digests → length below ≡ row_sides left
    → ((more : List Node) → AreMade left (drop used digests) below more → AreMade outcomes digests lower (nodes ++ more)) → AreMade outcomes digests lower nodes
made-end digests used left outcomes below lower nodes end all few ends =
    let used_all : length digests ≤ used = omega (arith, all, ap row_digests end, add-zero used) in
    let no_digest : drop used digests ≡ [] = drop_all used digests used_all in
    let no_node : below ≡ [] = none below (few ∙ ap row_sides end) in
    subst (AreMade outcomes digests lower) (append-nil nodes)
    (ends [] (rw (no_digest, end, no_node) tt))

-- ---- a row of places and what is made there

module _ (of : List ℕ → List ℕ) (nonce : List ℕ) (all : Items) (level : ℕ) where
  pub split-places : (places : List Place) (outcomes : Outcomes) (lower : List Place) → AreSplit of nonce all level places outcomes lower → ArePlaces of nonce all (level + 1) lower
  split-places [] [] [] h = tt
  split-places [] [] (x ∷ xs) h = absurd h
  split-places [] (s ∷ ss) lower h = absurd h
  split-places (p ∷ ps) [] lower h = absurd h
  split-places (p ∷ ps) (Kept node ∷ ss) lower h = split-places ps ss lower h.3
  split-places (p ∷ ps) (Vacant ∷ ss) lower h = split-places ps ss lower h.2
  split-places (p ∷ ps) (Single item ∷ ss) lower h = split-places ps ss lower h.4
  split-places (p ∷ ps) (Parted _ ∷ ss) [] h = absurd h
  split-places (p ∷ ps) (Parted _ ∷ ss) (z ∷ []) h = absurd h
  split-places (p ∷ ps) (Parted _ ∷ ss) (z ∷ o ∷ lower) h = (h.3, (h.4, split-places ps ss lower h.8))

  pub split-level : (places : List Place) (outcomes : Outcomes) (lower : List Place) → AreSplit of nonce all level places outcomes lower → 0 < length lower → level < 256
  split-level [] [] [] h some = absurd (omega arith)
  split-level [] [] (x ∷ xs) h some = absurd h
  split-level [] (s ∷ ss) lower h some = absurd h
  split-level (p ∷ ps) [] lower h some = absurd h
  split-level (p ∷ ps) (Kept node ∷ ss) lower h some = split-level ps ss lower h.3 some
  split-level (p ∷ ps) (Vacant ∷ ss) lower h some = split-level ps ss lower h.2 some
  split-level (p ∷ ps) (Single item ∷ ss) lower h some = split-level ps ss lower h.4 some
  split-level (p ∷ ps) (Parted _ ∷ ss) [] h some = absurd h
  split-level (p ∷ ps) (Parted _ ∷ ss) (z ∷ []) h some = absurd h
  split-level (p ∷ ps) (Parted _ ∷ ss) (z ∷ o ∷ lower) h some = h.0

  pub split-sides : (places : List Place) (outcomes : Outcomes) (lower : List Place) → AreSplit of nonce all level places outcomes lower → length lower ≡ row_sides outcomes
  split-sides [] [] [] h = refl
  split-sides [] [] (x ∷ xs) h = absurd h
  split-sides [] (s ∷ ss) lower h = absurd h
  split-sides (p ∷ ps) [] lower h = absurd h
  split-sides (p ∷ ps) (Kept node ∷ ss) lower h = omega (arith, split-sides ps ss lower h.3)
  split-sides (p ∷ ps) (Vacant ∷ ss) lower h = omega (arith, split-sides ps ss lower h.2)
  split-sides (p ∷ ps) (Single item ∷ ss) lower h = omega (arith, split-sides ps ss lower h.4)
  split-sides (p ∷ ps) (Parted _ ∷ ss) [] h = absurd h
  split-sides (p ∷ ps) (Parted _ ∷ ss) (z ∷ []) h = absurd h
  split-sides (p ∷ ps) (Parted _ ∷ ss) (z ∷ o ∷ lower) h = omega (arith, split-sides ps ss lower h.8)

  pub split-length : (places : List Place) (outcomes : Outcomes) (lower : List Place) → AreSplit of nonce all level places outcomes lower → length places ≡ length outcomes
  split-length [] [] lower h = refl
  split-length [] (s ∷ ss) lower h = absurd h
  split-length (p ∷ ps) [] lower h = absurd h
  split-length (p ∷ ps) (Kept node ∷ ss) lower h = ap suc (split-length ps ss lower h.3)
  split-length (p ∷ ps) (Vacant ∷ ss) lower h = ap suc (split-length ps ss lower h.2)
  split-length (p ∷ ps) (Single item ∷ ss) lower h = ap suc (split-length ps ss lower h.4)
  split-length (p ∷ ps) (Parted _ ∷ ss) [] h = absurd h
  split-length (p ∷ ps) (Parted _ ∷ ss) (z ∷ []) h = absurd h
  split-length (p ∷ ps) (Parted _ ∷ ss) (z ∷ o ∷ lower) h = ap suc (split-length ps ss lower h.8)

  -- the nodes that are made below, and those of the row
  pub split-count : (places : List Place) (outcomes : Outcomes) (lower : List Place) → AreSplit of nonce all level places outcomes lower
      → row_count level all places ≡ row_count (level + 1) all lower + row_digests outcomes
  split-count [] [] [] h = refl
  split-count [] [] (x ∷ xs) h = absurd h
  split-count [] (s ∷ ss) lower h = absurd h
  split-count (p ∷ ps) [] lower h = absurd h
  split-count (p ∷ ps) (Kept node ∷ ss) lower h = omega (arith, split-count ps ss lower h.3, h.2)
  split-count (p ∷ ps) (Vacant ∷ ss) lower h = omega (arith, split-count ps ss lower h.2, h.1)
  split-count (p ∷ ps) (Single item ∷ ss) lower h = omega (arith, split-count ps ss lower h.4, h.3)
  split-count (p ∷ ps) (Parted _ ∷ ss) [] h = absurd h
  split-count (p ∷ ps) (Parted _ ∷ ss) (z ∷ []) h = absurd h
  split-count (p ∷ ps) (Parted _ ∷ ss) (z ∷ o ∷ lower) h = omega (arith, split-count ps ss lower h.8, h.7)

  pub built-length : (places : List Place) (nodes : List Node) → AreBuilt of nonce all level places nodes → length nodes ≡ length places
  built-length [] [] h = refl
  built-length [] (x ∷ xs) h = absurd h
  built-length (p ∷ ps) [] h = absurd h
  built-length (p ∷ ps) (x ∷ xs) h = ap suc (built-length ps xs h.2)

-- the nodes of a row, where those of the row below are built
pub made-built : (of : List ℕ → List ℕ) (nonce : List ℕ) (all : Items) (level : ℕ) (places : List Place) (outcomes : Outcomes) (sides : List Place) (lower nodes : List Node)
    → AreSplit of nonce all level places outcomes sides → AreBuilt of nonce all (level + 1) sides lower
    → AreMade outcomes (map of (row_texts nonce level places outcomes (map kept lower))) lower nodes → AreBuilt of nonce all level places nodes
made-built of nonce all level [] [] [] [] [] split built made = tt
made-built of nonce all level [] [] [] [] (n ∷ ns) split built made = absurd made
made-built of nonce all level [] [] [] (x ∷ xs) nodes split built made = absurd built
made-built of nonce all level [] [] (x ∷ xs) lower nodes split built made = absurd split
made-built of nonce all level [] (s ∷ ss) sides lower nodes split built made = absurd split
made-built of nonce all level (p ∷ ps) [] sides lower nodes split built made = absurd split
made-built of nonce all level (p ∷ ps) (Kept node ∷ ss) sides lower [] split built made = absurd made
made-built of nonce all level (p ∷ ps) (Kept node ∷ ss) sides lower (n ∷ ns) split built made =
    (made.0.1 of nonce p.prefix level split.0, made.0.0 ∙ split.1, made-built of nonce all level ps ss sides lower ns split.3 built made.1)
made-built of nonce all level (p ∷ ps) (Vacant ∷ ss) sides lower [] split built made = absurd made
made-built of nonce all level (p ∷ ps) (Vacant ∷ ss) sides lower (Empty hash ∷ ns) split built made =
    (made.0, sym split.0, made-built of nonce all level ps ss sides lower ns split.2 built made.1)
made-built of nonce all level (p ∷ ps) (Vacant ∷ ss) sides lower (Leaf hash item ∷ ns) split built made = absurd made
made-built of nonce all level (p ∷ ps) (Vacant ∷ ss) sides lower (Interior' hash q z o ∷ ns) split built made = absurd made
made-built of nonce all level (p ∷ ps) (Single item ∷ ss) sides lower [] split built made = absurd made
made-built of nonce all level (p ∷ ps) (Single item ∷ ss) sides lower (Empty hash ∷ ns) split built made = absurd made
made-built of nonce all level (p ∷ ps) (Single item ∷ ss) sides lower (Leaf hash shared ∷ ns) split built made =
    let is = made.1 in (
      (rw is made.0, rw is split.1, rw is split.2),
      ap (λ (x : Item). let held : Items = x ∷ [] in held) is ∙ sym split.0,
      made-built of nonce all level ps ss sides lower ns split.4 built made.2,
    )
made-built of nonce all level (p ∷ ps) (Single item ∷ ss) sides lower (Interior' hash q z o ∷ ns) split built made = absurd made
made-built of nonce all level (p ∷ ps) (Parted _ ∷ ss) [] lower nodes split built made = absurd split
made-built of nonce all level (p ∷ ps) (Parted _ ∷ ss) (z ∷ []) lower nodes split built made = absurd split
made-built of nonce all level (p ∷ ps) (Parted _ ∷ ss) (z ∷ o ∷ sides) [] nodes split built made = absurd built
made-built of nonce all level (p ∷ ps) (Parted _ ∷ ss) (z ∷ o ∷ sides) (a ∷ []) nodes split built made = absurd built.2
made-built of nonce all level (p ∷ ps) (Parted _ ∷ ss) (z ∷ o ∷ sides) (a ∷ b ∷ lower) [] split built made = absurd made
made-built of nonce all level (p ∷ ps) (Parted _ ∷ ss) (z ∷ o ∷ sides) (a ∷ b ∷ lower) (Empty hash ∷ ns) split built made = absurd made
made-built of nonce all level (p ∷ ps) (Parted _ ∷ ss) (z ∷ o ∷ sides) (a ∷ b ∷ lower) (Leaf hash item ∷ ns) split built made = absurd made
made-built of nonce all level (p ∷ ps) (Parted _ ∷ ss) (z ∷ o ∷ sides) (a ∷ b ∷ lower) (Interior' hash q zero_side one_side ∷ ns) split built made =
    let held : contents zero_side ++ contents one_side ≡ items_of all p =
    (λ i. contents (made.1 i) ++ contents (made.2 i)) ∙ (λ i. built.1 i ++ built.2.1 i) ∙ sym split.6 in (
      (
        made.0 ∙ (λ i. of (interior_bytes (kept (sym made.1 i)) (kept (sym made.2 i)))),
        split.0,
        rw held split.5,
        subst (IsBuilt of nonce p.prefix (level + 1)) (sym made.1) (subst (λ (x : List ℕ). IsBuilt of nonce x (level + 1) a) split.1 built.0),
        subst (IsBuilt of nonce (with_one p.prefix level) (level + 1)) (sym made.2) (subst (λ (x : List ℕ). IsBuilt of nonce x (level + 1) b) split.2 built.2.0),
      ),
      held,
      made-built of nonce all level ps ss sides lower ns split.8 built.2.2 made.3,
    )

-- ---- the texts of a row

pub length-texts : (nonce : List ℕ) (level : ℕ) (places : List Place) (outcomes : Outcomes) (hashes : List (List ℕ)) → length places ≡ length outcomes
    → length (row_texts nonce level places outcomes hashes) ≡ row_digests outcomes
length-texts nonce level [] [] hashes even = refl
length-texts nonce level [] (s ∷ ss) hashes even = absurd (omega arith)
length-texts nonce level (p ∷ ps) [] hashes even = absurd (omega arith)
length-texts nonce level (p ∷ ps) (Kept node ∷ ss) hashes even = omega (arith, length-texts nonce level ps ss hashes (omega arith))
length-texts nonce level (p ∷ ps) (Vacant ∷ ss) hashes even = omega (arith, length-texts nonce level ps ss hashes (omega arith))
length-texts nonce level (p ∷ ps) (Single item ∷ ss) hashes even = omega (arith, length-texts nonce level ps ss hashes (omega arith))
length-texts nonce level (p ∷ ps) (Parted _ ∷ ss) hashes even = omega (arith, length-texts nonce level ps ss (drop 2 hashes) (omega arith))
