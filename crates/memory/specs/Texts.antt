-- The text of a memory, and the memory that a text spells.
use Rattle.std.specs.Prelude.{◌≡◌, ◌⊎◌, ℕ, ◌+◌, List, [], ◌∷◌, ◌++◌, length, map, Result, Ok, Err, ⊤}
use Rattle.std.specs.List.{flat_map, AllByRecursion}
use Rattle.textio.specs.Lines.{lines_of}
use Rattle.memory.specs.Lines.{item_line, IsLineOf, IsSound}
use Rattle.memory.specs.Lists.{IsLeft}
use Rattle.memory.specs.Memories.{Memory, nothing}
use Rattle.memory.specs.Taking.{Takes}
use Rattle.memory.specs.declared.alarm.Alarm.{Alarm as AlarmMade}
use Rattle.memory.specs.declared.item.Item.{Item}
use Rattle.memory.specs.declared.item.Item.TheVariants.{Promised, Watched, Final, Alarm, Evidence}
use Rattle.memory.specs.declared.read_fault.ReadFault.{ReadFault}
use Rattle.memory.specs.declared.read_fault.ReadFault.TheVariants.{BadItem, OutOfMemory}

abbrev pub memory_items : Memory → List Item
memory_items memory = map Promised memory.promises ++ (map Watched memory.marks ++ (map Final memory.finals ++ (map Alarm memory.alarms ++ map Evidence memory.evidence)))

-- the lines of items, each with its LF
abbrev pub items_text : List Item → List ℕ
items_text = flat_map (λ item. item_line item ++ 10 ∷ [])

abbrev pub memory_text : Memory → List ℕ
memory_text memory = items_text (memory_items memory)

-- each item has a line
abbrev pub HoldsSound : Memory → Type 0
HoldsSound memory = AllByRecursion IsSound (memory_items memory)

-- the lines of the alarms of a name, in order, and how many there are
abbrev pub TellsAgain : List ℕ → List AlarmMade → List ℕ → ℕ → Type 0
TellsAgain name alarms text count =
    (told : List AlarmMade) × IsLeft (λ (alarm : AlarmMade). alarm.name ≡ name) alarms told × (text ≡ items_text (map Alarm told)) × (count ≡ length told)

-- What comes of lines, the first of which has this number, in a memory: it takes their items one after another, up to
-- the first line that is no item. An empty line is passed over.
abbrev pub Recalls : ℕ → List (List ℕ) → Memory → Result Memory ReadFault → Type 0
Recalls number [] before result = result ≡ Ok before
Recalls number ([] ∷ lines) before result = Recalls (number + 1) lines before result
Recalls number ((byte ∷ line) ∷ lines) before result =
    ((item : Item) × (after : Memory) × IsLineOf (byte ∷ line) item × Takes item before after × Recalls (number + 1) lines after result)
    ⊎ (((item : Item) → ¬ IsLineOf (byte ∷ line) item) × (result ≡ Err (BadItem number)))

-- the memory takes these items, one after another, and each of them has a line
abbrev pub TakesAll : List Item → Memory → Memory → Type 0
TakesAll [] before after = after ≡ before
TakesAll (item ∷ more) before after = (middle : Memory) × IsSound item × Takes item before middle × TakesAll more middle after

-- the text is empty, or its last line has its LF
abbrev pub HasWholeLines : List ℕ → Type 0
HasWholeLines text = (text ≡ []) ⊎ ((front : List ℕ) × (text ≡ front ++ 10 ∷ []))

-- the memory that a text spells, or the number of the first line that is no item, from 1
abbrev pub Spells : List ℕ → Result Memory ReadFault → Type 0
Spells text result = Recalls 1 (lines_of text) nothing result

-- what is read of a text, unless memory runs out
abbrev pub IsRead : List ℕ → Result Memory ReadFault → Type 0
IsRead text (Ok memory) = Spells text (Ok memory)
IsRead text (Err (BadItem number)) = Spells text (Err (BadItem number))
IsRead text (Err OutOfMemory) = ⊤

-- what comes of one line in a memory
abbrev pub TakesLine : List ℕ → ℕ → Memory → Memory → Result (Unit {0}) ReadFault → Type 0
TakesLine line number before after (Ok done) = ((line ≡ []) × (after ≡ before)) ⊎ ((item : Item) × IsLineOf line item × Takes item before after)
TakesLine line number before after (Err (BadItem at)) = (at ≡ number) × ((item : Item) → ¬ IsLineOf line item) × ((byte : ℕ) × (more : List ℕ) × (line ≡ byte ∷ more))
TakesLine line number before after (Err OutOfMemory) = ⊤
