-- What is told of an answer: its lines, and the status of a run in which it was the worst.
use Rattle.std.specs.Prelude.{◌≡◌, ℕ, nat_lt, if◌then◌else◌, List, [], ◌∷◌, ◌++◌}
use Rattle.asking.specs.declared.said.Said.{Said}
use Rattle.asking.specs.declared.said.TheConstants.{CAUGHT, REFUSED}

pub record Report : Type 0 where
  -- each with its LF
  pub lines : List ℕ
  pub status : ℕ

-- one line, where all went well, where something was refused, and where it shows that the provider is caught
abbrev pub fine : List ℕ → Report
fine line = record { lines = line ++ 10 ∷ []; status = 0 }

abbrev pub refused : List ℕ → Report
refused line = record { lines = line ++ 10 ∷ []; status = REFUSED }

abbrev pub caught : List ℕ → Report
caught line = record { lines = line ++ 10 ∷ []; status = CAUGHT }

-- nothing
abbrev pub silent : Report
silent = record { lines = []; status = 0 }

-- nothing, if all went well
abbrev pub unless_fine : Report → Report
unless_fine told = if nat_lt 0 told.status then told else silent

-- the worse of two statuses
abbrev pub worse : ℕ → ℕ → ℕ
worse one other = if nat_lt one other then other else one

-- this is told after what was said before
abbrev pub Tells : Said → Report → Said → Type 0
Tells before told after = (after.text.items ≡ before.text.items ++ told.lines) × (after.status ≡ worse before.status told.status)

-- all that was said so far
abbrev pub report_of : Said → Report
report_of said = record { lines = said.text.items; status = said.status }

-- and this after it
abbrev pub told_after : Report → Report → Report
told_after before told = record { lines = before.lines ++ told.lines; status = worse before.status told.status }
