-- Scripts whose lines stand beside what they print.
use Rattle.std.specs.Prelude.{◌≡◌, ℕ, zero, suc, List, [], ◌++◌, None, Some, length, map, replicate}
use Rattle.std.specs.List.{flat_map}
use Rattle.rand_core.specs.Stream.{Stream}
use Rattle.play.specs.Lines.{as_lines}
use Rattle.play.specs.Printing.{printed}
use Rattle.play.specs.Scripts.{line_of}

-- a line of a script, and the lines that it prints
abbrev pub Row : Type 0
Row = List ℕ × List (List ℕ)

-- digits, so many times
abbrev pub repeated : ℕ → List ℕ → List ℕ
repeated zero digits = []
repeated (suc count) digits = digits ++ repeated count digits

abbrev pub script_of : List Row → List ℕ
script_of rows = as_lines (map (λ row. row.0) rows)

abbrev pub lines_beside : List Row → List (List ℕ)
lines_beside rows = flat_map (λ row. row.1) rows

-- the script prints these lines, whatever the salts are, where the index of a name is this function of it
abbrev pub PrintsUnder : (List ℕ → List ℕ) → List ℕ → List (List ℕ) → Type 0
PrintsUnder index_of script lines = (salts : Stream) → printed index_of salts script ≡ record { lines = lines; stopped = None }

-- the lines print what stands beside them, whatever the indices are
abbrev pub PrintRows : List Row → Type 0
PrintRows rows = (index_of : List ℕ → List ℕ) → PrintsUnder index_of (script_of rows) (lines_beside rows)

-- the lines print what stands beside them, where each name is its own index
abbrev pub PrintRowsApart : List Row → Type 0
PrintRowsApart rows = PrintsUnder (λ name. name) (script_of rows) (lines_beside rows)

-- the lines print what stands beside them, where all names have one index
abbrev pub PrintRowsTogether : List Row → Type 0
PrintRowsTogether rows = PrintsUnder (λ name. []) (script_of rows) (lines_beside rows)

-- the line of this number is the first that is no command, and those before it print this
abbrev pub StopsAtLine : ℕ → List ℕ → List (List ℕ) → Type 0
StopsAtLine place script lines = (index_of : List ℕ → List ℕ) (salts : Stream) → printed index_of salts script ≡ record { lines = lines; stopped = Some place }

-- none of these lines is a command
abbrev pub AreNoCommands : List (List ℕ) → Type 0
AreNoCommands lines = map line_of lines ≡ replicate (length lines) None
