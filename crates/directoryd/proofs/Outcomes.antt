-- Outcomes of programs that have no status but 0.
use Rattle.std.proofs.Common.{◌≡◌, ℕ, List, Option, Result, Ok, Err, refl}
use Rattle.textio.specs.declared.program_fault.ProgramFault.{ProgramFault}
use Rattle.textio.specs.Output.{Ends}
use Rattle.directoryd.specs.Programs.{without_status, with_zero, EndsWithStatus, IsZero}

pub ends_with_zero : (Says : List ℕ → Result (List ℕ) ProgramFault → Type 0) (input old new : Option (List ℕ)) (outcome : Result (Unit {0}) ProgramFault)
    → Ends Says input old new outcome → EndsWithStatus 0 Says input old new (with_zero outcome)
ends_with_zero Says input old new (Ok done) ends = (refl, ends)
ends_with_zero Says input old new (Err fault) ends = ends

pub is_zero : (outcome : Result (Unit {0}) ProgramFault) → IsZero (with_zero outcome)
is_zero (Ok done) = refl
is_zero (Err fault) = tt

pub without_zero : (outcome : Result (Unit {0}) ProgramFault) → without_status (with_zero outcome) ≡ outcome
without_zero (Ok done) = refl
without_zero (Err fault) = refl
