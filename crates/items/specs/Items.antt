-- What the lines of an input say: on each, an index and its commitment.
use Rattle.std.specs.Prelude.{ℕ, ◌+◌, ◌==◌, Bool, if◌then◌else◌, List, [], ◌∷◌, ◌++◌, length, take, drop, slice_index, Option, Some, None, Result, Ok, Err, option_and_then, option_map}
use Rattle.std.specs.List.{list_any}
use Rattle.std.specs.Str.{bytes_eq}
use Rattle.std.specs.Map.{keys_of}
use Rattle.prefixtree.specs.Placement.{Items, put_all}
use Rattle.items.specs.declared.listing.TheConstants.{ITEM_SIZE}
use Rattle.textio.specs.declared.program_fault.ProgramFault.{ProgramFault}
use Rattle.textio.specs.declared.program_fault.ProgramFault.TheVariants.{BadItem, IndexRepeated}
use Rattle.textio.specs.declared.digits.TheConstants.{HASH_DIGITS}
use Rattle.textio.specs.Digits.{hex32}
use Rattle.textio.specs.Lines.{lines_of}

-- an item's line: the index, one space, the commitment
unfoldable pub item_of : List ℕ → Option (List ℕ × List ℕ)
item_of line =
    if length line == ITEM_SIZE
    then (if slice_index line HASH_DIGITS == 32
    then option_and_then (λ index. option_map (λ commitment. (index, commitment)) (hex32 (drop (HASH_DIGITS + 1) line))) (hex32 (take HASH_DIGITS line))
    else None)
    else None

-- the index stands among the items
abbrev pub is_among : List ℕ → Items → Bool
is_among index items = list_any (bytes_eq index) (keys_of items)

-- The next line, after the items of those before it: it is malformed, or it repeats an index, or it is
-- one more item.
abbrev pub after_line : Items → Option (List ℕ × List ℕ) → (Items → Result Items ProgramFault) → Result Items ProgramFault
after_line before None next = Err (BadItem (length before + 1))
after_line before (Some item) next = if is_among item.0 before then Err (IndexRepeated (length before + 1)) else next (before ++ item ∷ [])

-- the items of the lines, after those before; or the fault of the first faulty line
abbrev pub items_from : Items → List (List ℕ) → Result Items ProgramFault
items_from before [] = Ok before
items_from before (line ∷ lines) = after_line before (item_of line) (λ items. items_from items lines)

-- the items, each put in, in turn
abbrev pub in_place : Result Items ProgramFault → Result Items ProgramFault
in_place (Ok items) = Ok (put_all [] items)
in_place (Err fault) = Err fault

-- the placement that an input gives, or the fault of its first faulty line
abbrev pub placement_of : List ℕ → Result Items ProgramFault
placement_of input = in_place (items_from [] (lines_of input))
