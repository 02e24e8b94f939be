-- The places of one level, what is made at each, and the places one level down.
use Rattle.std.specs.Prelude.{◌≡◌, ℕ, ◌+◌, ◌-◌, ◌<◌, ◌≤◌, List, [], ◌∷◌, ◌++◌, length, take, drop, slice_index_or}
use Rattle.std.specs.List.{AllByRecursion}
use Rattle.encoding.specs.Bits.{cut, with_one}
use Rattle.encoding.specs.Bytes.{Is32Bytes}
use Rattle.nodehash.specs.NodeTexts.{empty_bytes, leaf_bytes, interior_bytes}
use Rattle.prefixtree.specs.Placement.{Items}
use Rattle.prefixtree.specs.Built.{contents, IsBuilt}
use Rattle.prefixtree.specs.Growth.{grown, grown_count, MayGrow}
use Rattle.prefixtree.specs.declared.node.Node.{Node}
use Rattle.prefixtree.specs.declared.node.Node.TheVariants.{Empty, Leaf, Interior'}
use Rattle.prefixtree.specs.declared.place.Outcome.{Outcome}
use Rattle.prefixtree.specs.declared.place.Outcome.TheVariants.{Kept, Vacant, Single, Parted}
use Rattle.prefixtree.specs.declared.row.Place.{Place}

-- what is made at the places of a row
abbrev pub Outcomes : Type 0
Outcomes = List (Outcome (Unit {0}))

-- the changes below a place, of all
abbrev pub changes_of : Items → Place → Items
changes_of all place = take (place.end - place.start) (drop place.start all)

-- the items that come to stand there
abbrev pub items_of : Items → Place → Items
items_of all place = grown place.before (changes_of all place)

-- how many nodes are made at and below a place of this level, and at and below those of a row
abbrev pub count_of : ℕ → Items → Place → ℕ
count_of level all place = grown_count (256 - level) place.before (changes_of all place)

abbrev pub row_count : ℕ → Items → List Place → ℕ
row_count level all [] = 0
row_count level all (place ∷ places) = count_of level all place + row_count level all places

-- how many nodes of the row below, and how many digests, are used for what is made at a place and at those of a row
abbrev pub sides_of : Outcome (Unit {0}) → ℕ
sides_of (Parted _) = 2
sides_of outcome = 0

abbrev pub digests_of : Outcome (Unit {0}) → ℕ
digests_of (Kept node) = 0
digests_of outcome = 1

abbrev pub row_sides : Outcomes → ℕ
row_sides [] = 0
row_sides (outcome ∷ outcomes) = sides_of outcome + row_sides outcomes

abbrev pub row_digests : Outcomes → ℕ
row_digests [] = 0
row_digests (outcome ∷ outcomes) = digests_of outcome + row_digests outcomes

-- the texts that are hashed for what is made at a place, over the hashes of the row below, and those of a row
abbrev pub place_texts : List ℕ → ℕ → List ℕ → Outcome (Unit {0}) → List (List ℕ) → List (List ℕ)
place_texts nonce level prefix (Kept node) hashes = []
place_texts nonce level prefix Vacant hashes = empty_bytes nonce prefix level ∷ []
place_texts nonce level prefix (Single item) hashes = leaf_bytes nonce item.value.0 level item.value.1 ∷ []
place_texts nonce level prefix (Parted _) hashes = interior_bytes (slice_index_or hashes 0 []) (slice_index_or hashes 1 []) ∷ []

abbrev pub row_texts : List ℕ → ℕ → List Place → Outcomes → List (List ℕ) → List (List ℕ)
row_texts nonce level (place ∷ places) (outcome ∷ outcomes) hashes =
    place_texts nonce level place.prefix outcome hashes ++ row_texts nonce level places outcomes (drop (sides_of outcome) hashes)
row_texts nonce level places outcomes hashes = []

-- the same node, as far as can be told from what it refers to
abbrev pub IsSame : Node → Node → Type 0
IsSame node other =
    (contents other ≡ contents node)
    × ((of : List ℕ → List ℕ) (nonce prefix : List ℕ) (level : ℕ) → IsBuilt of nonce prefix level node → IsBuilt of nonce prefix level other)

-- the nodes that are made, of these digests and over these nodes of the row below
abbrev pub AreMade : Outcomes → List (List ℕ) → List Node → List Node → Type 0
AreMade [] [] [] [] = Unit {0}
AreMade (Kept node ∷ outcomes) digests lower (other ∷ nodes) = IsSame node other × AreMade outcomes digests lower nodes
AreMade (Vacant ∷ outcomes) (digest ∷ digests) lower (Empty hash ∷ nodes) = (hash ≡ digest) × AreMade outcomes digests lower nodes
AreMade (Single item ∷ outcomes) (digest ∷ digests) lower (Leaf hash shared ∷ nodes) =
    (hash ≡ digest) × (shared.value ≡ item.value) × AreMade outcomes digests lower nodes
AreMade (Parted _ ∷ outcomes) (digest ∷ digests) (zero_node ∷ one_node ∷ lower) (Interior' hash p zero_side one_side ∷ nodes) =
    (hash ≡ digest) × (zero_side ≡ zero_node) × (one_side ≡ one_node) × AreMade outcomes digests lower nodes
AreMade outcomes digests lower nodes = ⊥

module _ (of : List ℕ → List ℕ) (nonce : List ℕ) (all : Items) where
  -- a place of this level, whose changes are some of all
  pub record IsRowPlace (level : ℕ) (place : Place) : Type 0 where
    pub order : place.start ≤ place.end
    pub within : place.end ≤ length all
    pub at : MayGrow of nonce place.prefix level place.before (changes_of all place)

  abbrev pub ArePlaces : ℕ → List Place → Type 0
  ArePlaces level places = AllByRecursion (IsRowPlace level) places

  -- what is made at each place of a row, and the places of their sides
  abbrev pub AreSplit : ℕ → List Place → Outcomes → List Place → Type 0
  AreSplit level [] [] [] = Unit {0}
  AreSplit level (place ∷ places) (Kept node ∷ outcomes) lower =
      IsBuilt of nonce place.prefix level node × (contents node ≡ items_of all place) × (count_of level all place ≡ 0)
      × AreSplit level places outcomes lower
  AreSplit level (place ∷ places) (Vacant ∷ outcomes) lower =
      (items_of all place ≡ []) × (count_of level all place ≡ 1)
      × AreSplit level places outcomes lower
  AreSplit level (place ∷ places) (Single item ∷ outcomes) lower =
      (items_of all place ≡ item.value ∷ []) × Is32Bytes item.value.0 × (cut item.value.0 level ≡ place.prefix) × (count_of level all place ≡ 1)
      × AreSplit level places outcomes lower
  AreSplit level (place ∷ places) (Parted _ ∷ outcomes) (zero_side ∷ one_side ∷ lower) =
      (level < 256) × (zero_side.prefix ≡ place.prefix) × (one_side.prefix ≡ with_one place.prefix level)
      × IsRowPlace (level + 1) zero_side × IsRowPlace (level + 1) one_side
      × (1 < length (items_of all place)) × (items_of all place ≡ items_of all zero_side ++ items_of all one_side)
      × (count_of level all place ≡ count_of (level + 1) all zero_side + count_of (level + 1) all one_side + 1)
      × AreSplit level places outcomes lower
  AreSplit level places outcomes lower = ⊥

  -- each node is the one of its place
  abbrev pub AreBuilt : ℕ → List Place → List Node → Type 0
  AreBuilt level [] [] = Unit {0}
  AreBuilt level (place ∷ places) (node ∷ nodes) =
      IsBuilt of nonce place.prefix level node × (contents node ≡ items_of all place) × AreBuilt level places nodes
  AreBuilt level places nodes = ⊥
