-- What a program writes.
use Rattle.std.specs.Prelude.{◌≡◌, ℕ, ◌<◌, List, ◌++◌, length, Option, Result, Ok, Err, IfSome}
use Rattle.std.specs.Io.KnownBytes.{Appends, Keeps}
use Rattle.textio.specs.declared.program_fault.ProgramFault.{ProgramFault}
use Rattle.textio.specs.declared.program_fault.ProgramFault.TheVariants.{CannotWrite}
use Rattle.textio.specs.Faults.{IsTold}

-- the text but for this rest was written
abbrev pub WritesBut : Option (List ℕ) → Option (List ℕ) → List ℕ → List ℕ → Type 0
WritesBut old new text rest = (front : List ℕ) × (text ≡ front ++ rest) × Appends old new front

-- a beginning of the text was written, perhaps the whole
abbrev pub WritesSome : Option (List ℕ) → Option (List ℕ) → List ℕ → Type 0
WritesSome old new text = (rest : List ℕ) × WritesBut old new text rest

-- a beginning of the text was written, but not the whole
abbrev pub WritesBeginning : Option (List ℕ) → Option (List ℕ) → List ℕ → Type 0
WritesBeginning old new text = (rest : List ℕ) × (0 < length rest) × WritesBut old new text rest

-- A program that says a text to its input ends: with such a text written whole, or less of it where
-- a write failed, or nothing where a read or memory failed, or nothing and the fault that is said.
-- The input is the bytes that the reader had, where they are known.
abbrev pub Ends : (List ℕ → Result (List ℕ) ProgramFault → Type 0) → Option (List ℕ) → Option (List ℕ) → Option (List ℕ) → Result (Unit {0}) ProgramFault → Type 0
Ends Says input old new (Ok done) = IfSome input (λ bytes. (text : List ℕ) × Says bytes (Ok text) × Appends old new text)
Ends Says input old new (Err CannotWrite) = IfSome input (λ bytes. (text : List ℕ) × Says bytes (Ok text) × WritesBeginning old new text)
Ends Says input old new (Err fault) = Keeps old new × IfSome input (λ bytes. IsTold fault (Says bytes))
