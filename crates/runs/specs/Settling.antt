-- The command that settles the alarms of a name.
use Rattle.std.specs.Prelude.{◌≡◌, ◌⊎◌, ℕ, ◌<◌, ◌≤◌, List, [], ◌∷◌, ◌++◌, Option, Some, None, Ok, codes, decimal}
use Rattle.std.specs.Io.KnownBytes.{Appends}
use Rattle.hex.specs.Hex.{decode_of, encode_lower}
use Rattle.encoding.specs.Limits.{IsName}
use Rattle.memory.specs.Memories.{Memory}
use Rattle.textio.specs.Output.{WritesSome}
use Rattle.runs.specs.AskOptions.{AskOptions}
use Rattle.asking.specs.Recalled.{evidence_again}
use Rattle.asking.specs.declared.said.TheConstants.{CAUGHT}

-- the words are `settle` and a name in hexadecimal digits, and there is a state
abbrev pub IsSettling : AskOptions → List ℕ → Type 0
IsSettling options name = (¬ (options.state ≡ None)) × (digits : List ℕ)
    × (options.words ≡ Some (codes "settle") ∷ Some digits ∷ None ∷ None ∷ []) × (decode_of digits ≡ Ok name) × IsName name

-- the line that says that so many alarms of the name were dropped
abbrev pub settled_line : List ℕ → ℕ → List ℕ
settled_line name count = codes "settled " ++ encode_lower name ++ codes " " ++ decimal count ++ 10 ∷ []

-- evidence of earlier runs is told again, and then that
abbrev pub settled_text : Memory → List ℕ → ℕ → List ℕ
settled_text known name count = (evidence_again known).lines ++ settled_line name count

-- all of that is written, or behind evidence perhaps a beginning; the status is that of the evidence
abbrev pub Settles : List ℕ → ℕ → Option (List ℕ) → Option (List ℕ) → Type 0
Settles name status old new = (known : Memory) × (count : ℕ) × (status ≡ (evidence_again known).status)
    × (Appends old new (settled_text known name count) ⊎ ((CAUGHT ≤ status) × WritesSome old new (settled_text known name count)))

-- a beginning of it is written, and there is no evidence
abbrev pub SettlesPart : List ℕ → Option (List ℕ) → Option (List ℕ) → Type 0
SettlesPart name old new = (known : Memory) × (count : ℕ) × ((evidence_again known).status < CAUGHT) × WritesSome old new (settled_text known name count)
