-- What a script prints.
use Rattle.std.specs.Prelude.{ℕ, ◌+◌, List, [], ◌∷◌, ◌++◌, Option, Some, None}
use Rattle.rand_core.specs.Stream.{Stream}
use Rattle.textio.specs.Lines.{lines_of}
use Rattle.play.specs.Lines.{as_lines}
use Rattle.play.specs.Played.{Stand, line_played, opening}
use Rattle.play.specs.Scripts.{ScriptLine, line_of}

-- what its lines print, up to the first that is no command, and the number of that one, from 1 on
pub record Printout : Type 0 where
  pub lines : List (List ℕ)
  pub stopped : Option ℕ

-- the text that is printed
abbrev pub text : Printout → List ℕ
text printed = as_lines printed.lines

abbrev pub onto : List (List ℕ) → Printout → Printout
onto lines later = record { lines = lines ++ later.lines; stopped = later.stopped }

module _ (index_of : List ℕ → List ℕ) where
  -- a line of this number, and then those after it, or none where it is no command
  abbrev pub by_line : ℕ → Stand → Option ScriptLine → (Stand → Printout) → Printout
  by_line place stand None next = record { lines = []; stopped = Some place }
  by_line place stand (Some line) next = let now = line_played index_of stand line in onto now.0 (next now.1)

  -- lines, of which the first has this number
  abbrev pub played_from : ℕ → Stand → List (List ℕ) → Printout
  played_from place stand [] = record { lines = []; stopped = None }
  played_from place stand (line ∷ more) = by_line place stand (line_of line) (λ after. played_from (place + 1) after more)

  -- a script, from the opening on
  abbrev pub printed : Stream → List ℕ → Printout
  printed salts script = played_from 1 (opening salts) (lines_of script)
