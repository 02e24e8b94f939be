-- The next line of an input.
use Rattle.std.specs.Prelude.{◌≡◌, ℕ, ◌==◌, ◌&&◌, nat_lt, if◌then◌else◌, List, [], ◌∷◌, length, take, slice_index, Option, Some, None, ⊤, IsSomeAnd}
use Rattle.textio.specs.Lines.{lines_of}
use Rattle.items.specs.Items.{item_of}
use Rattle.items.specs.declared.listing.TheConstants.{ITEM_SIZE}
use Rattle.items.specs.declared.listing.NextLine.{NextLine}
use Rattle.items.specs.declared.listing.NextLine.TheVariants.{Item, Malformed, End}

-- the item of the line at the front of some bytes, where an item's line and its LF stand there
abbrev pub item_in_front : List ℕ → Option (List ℕ × List ℕ)
item_in_front bytes = if nat_lt ITEM_SIZE (length bytes) && (slice_index bytes ITEM_SIZE == 10) then item_of (take ITEM_SIZE bytes) else None

-- Known bytes lose their first line, which is an item's. Or their first line is malformed, or there is none.
abbrev pub TakesNext : Option (List ℕ) → Option (List ℕ) → NextLine → Type 0
TakesNext None left next = ⊤
TakesNext (Some input) left (Item item) = IsSomeAnd left (λ rest. (line : List ℕ) × (lines_of input ≡ line ∷ lines_of rest) × (item_of line ≡ Some item))
TakesNext (Some input) left Malformed = (line : List ℕ) × (lines : List (List ℕ)) × (lines_of input ≡ line ∷ lines) × (item_of line ≡ None)
TakesNext (Some input) left End = input ≡ []
