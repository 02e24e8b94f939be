-- A place of a tree before and after some changes: what stands there, and how many nodes are made.
use Rattle.std.specs.Prelude.{◌≡◌, ℕ, ◌+◌, ◌-◌, ◌<◌, ◌≤◌, List, [], ◌∷◌, ◌++◌, length, Result, IfOk, OnOk}
use Rattle.std.specs.declared.alloc.AllocError.{AllocError}
use Rattle.encoding.specs.Bits.{cut, with_one}
use Rattle.encoding.specs.Bytes.{Is32Bytes}
use Rattle.nodehash.specs.Digests.{after_digests}
use Rattle.prefixtree.specs.Placement.{Items, put_all}
use Rattle.prefixtree.specs.Node.{half, node_count}
use Rattle.prefixtree.specs.Under.{IsUnder}
use Rattle.prefixtree.specs.Changes.{made_count}
use Rattle.prefixtree.specs.Built.{contents, IsBuilt}
use Rattle.prefixtree.specs.declared.node.Node.{Node}
use Rattle.prefixtree.specs.declared.place.Before.{Before}
use Rattle.prefixtree.specs.declared.place.Before.TheVariants.{Made, Moved, Nothing, Stale}
use Rattle.prefixtree.specs.declared.place.Outcome.{Outcome}
use Rattle.prefixtree.specs.declared.place.Outcome.TheVariants.{Kept, Vacant, Single, Parted}
use Rattle.prefixtree.specs.declared.place.Sides.{Sides}

-- the items that stand at a place before the changes
abbrev pub standing : Before → Items
standing (Made node) = contents node
standing (Moved item) = item.value ∷ []
standing Nothing = []
standing (Stale node) = contents node

-- the items that stand there after them
abbrev pub grown : Before → Items → Items
grown before changes = put_all (standing before) changes

-- how many nodes are made at and below the place, with this many levels below it
abbrev pub grown_count : ℕ → Before → Items → ℕ
grown_count below (Made node) changes = made_count below (contents node) changes
grown_count below (Moved item) changes = node_count below (put_all (item.value ∷ []) changes)
grown_count below Nothing changes = node_count below (put_all [] changes)
grown_count below (Stale node) changes = node_count below (put_all (contents node) changes)

-- a place is parted into these two sides
abbrev pub parted : Before → Before → Outcome Sides
parted zero one = Parted (record { zero_side = zero; one_side = one })

module _ (of : List ℕ → List ℕ) (nonce : List ℕ) where
  -- what stands at a place is its own
  abbrev pub IsStanding : List ℕ → ℕ → Before → Type 0
  IsStanding prefix level (Made node) = IsBuilt of nonce prefix level node
  IsStanding prefix level (Moved item) = Is32Bytes item.value.0 × (cut item.value.0 level ≡ prefix)
  IsStanding prefix level Nothing = Unit {0}
  IsStanding prefix level (Stale node) = (was : List ℕ) × IsBuilt of was prefix level node

  -- what stands at a place, and changes that belong below it
  pub record MayGrow (prefix : List ℕ) (level : ℕ) (before : Before) (changes : Items) : Type 0 where
    pub under : IsUnder prefix level changes
    pub stands : IsStanding prefix level before

  -- What comes of growing a place: the node that has the items after the changes, for one digest for each node
  -- that is made. Where memory runs out, no more were taken.
  pub record IsGrowth (prefix : List ℕ) (level : ℕ) (before : Before) (changes : Items) (result : Result Node AllocError) (digests digests' : ℕ) : Type 0 where
    pub built : IfOk result (IsBuilt of nonce prefix level)
    pub items : IfOk result (λ node. contents node ≡ grown before changes)
    pub work : digests' ≤ digests + grown_count (256 - level) before changes
    pub exact : OnOk result (digests' ≡ after_digests (grown_count (256 - level) before changes) digests)

  -- two sides that have, between them, what becomes of these items and changes, and the nodes made for it
  pub record AreSides (prefix : List ℕ) (level : ℕ) (items changes : Items) (count : ℕ) (zero_side one_side : Before) : Type 0 where
    pub below_256 : level < 256
    pub zeros : MayGrow prefix (level + 1) zero_side (half 0 level changes)
    pub ones : MayGrow (with_one prefix level) (level + 1) one_side (half 1 level changes)
    pub two : 1 < length (put_all items changes)
    pub both : put_all items changes ≡ grown zero_side (half 0 level changes) ++ grown one_side (half 1 level changes)
    pub counted : count ≡ grown_count (256 - (level + 1)) zero_side (half 0 level changes) + grown_count (256 - (level + 1)) one_side (half 1 level changes) + 1

  -- what becomes of these items and changes at a place, with this many nodes made
  abbrev pub Comes : List ℕ → ℕ → Items → Items → ℕ → Outcome Sides → Type 0
  Comes prefix level items changes count (Kept node) = IsBuilt of nonce prefix level node × (contents node ≡ put_all items changes) × (count ≡ 0)
  Comes prefix level items changes count Vacant = (put_all items changes ≡ []) × (count ≡ 1)
  Comes prefix level items changes count (Single item) =
      (put_all items changes ≡ item.value ∷ []) × Is32Bytes item.value.0 × (cut item.value.0 level ≡ prefix) × (count ≡ 1)
  Comes prefix level items changes count (Parted sides) = AreSides prefix level items changes count sides.zero_side sides.one_side
