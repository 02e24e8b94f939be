-- The items that are read before they are placed.
use Rattle.std.specs.Prelude.{◌≡◌, ℕ, Bool, true, false, List, [], ◌∷◌, ◌++◌, length, Option, Some, None}
use Rattle.prefixtree.specs.Placement.{Items, HasDistinctIndices}
use Rattle.items.specs.Items.{item_of, is_among}

-- the items before the first malformed line, and whether there is one
pub record ItemList : Type 0 where
  pub items : Items
  pub is_cut : Bool

abbrev pub onto_item_list : Option (List ℕ × List ℕ) → ItemList → ItemList
onto_item_list None rest = record { items = []; is_cut = true }
onto_item_list (Some item) rest = record { items = item ∷ rest.items; is_cut = rest.is_cut }

abbrev pub item_list : List (List ℕ) → ItemList
item_list [] = record { items = []; is_cut = false }
item_list (line ∷ lines) = onto_item_list (item_of line) (item_list lines)

-- the item at this place is the first whose index stands before it
abbrev pub IsFirstRepeat : ℕ → Items → Type 0
IsFirstRepeat place items = (before : Items) × (item : List ℕ × List ℕ) × (after : Items)
    × (items ≡ before ++ item ∷ after) × (length before ≡ place) × HasDistinctIndices before × (is_among item.0 before ≡ true)
