-- What is told of a file.
use Rattle.std.specs.Prelude.{ℕ, List, ◌++◌, Option, codes}
use Rattle.textio.specs.Output.{WritesSome}

-- the line about the file of a path, behind the words that begin it
abbrev pub file_line : List ℕ → List ℕ → List ℕ → List ℕ
file_line begins path what = begins ++ path ++ codes ": " ++ what ++ codes "\n"

-- such a line says what the system said of the file, whatever that is; or less of it is written, if memory or a write failed
abbrev pub TellsError : List ℕ → List ℕ → Option (List ℕ) → Option (List ℕ) → Type 0
TellsError begins path old new = (words : List ℕ) × WritesSome old new (file_line begins path words)
