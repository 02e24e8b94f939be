-- A fault's line, as a flag says whether it was written whole.
use Rattle.std.proofs.Common.{◌≡◌, ℕ, List, Bool, Option, Result, Ok, Err}
use Rattle.std.specs.Prelude.{is_ok, IfErr, OnOk}
use Rattle.std.specs.Io.KnownBytes.{Appends}
use Rattle.textio.specs.declared.program_fault.ProgramFault.{ProgramFault}
use Rattle.textio.specs.declared.program_fault.ProgramFault.TheVariants.{CannotWrite}
use Rattle.textio.specs.Output.{WritesBeginning}
use Rattle.directoryd.specs.Programs.{TellsFault}

pub told : (text : List ℕ) (old new : Option (List ℕ)) (result : Result (Unit {0}) ProgramFault) (flag : Bool) → flag ≡ is_ok result
    → OnOk result (Appends old new text) → IfErr result (λ fault. (fault ≡ CannotWrite) × WritesBeginning old new text)
    → TellsFault flag text old new
told text old new (Ok done) flag is whole less = rw is whole
told text old new (Err fault) flag is whole less = rw is less.1
