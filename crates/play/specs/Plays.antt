-- What a call that plays a script returned, and what it did.
use Rattle.std.specs.Prelude.{ℕ, List, Option, Some, None, Result, Ok, Err, IsSomeAnd}
use Rattle.textio.specs.declared.program_fault.ProgramFault.{ProgramFault}
use Rattle.textio.specs.declared.program_fault.ProgramFault.TheVariants as fault
use Rattle.play.specs.Ends.{Ending, Done, NotACommand, CannotRead, CannotWrite, OutOfMemory, Plays}
use Rattle.play.specs.Printing.{Printout}

-- the ending that was returned, if it is one
abbrev pub ending_returned : Result (Unit {0}) ProgramFault → Option Ending
ending_returned (Ok done) = Some Done
ending_returned (Err (fault.NotACommand place)) = Some (NotACommand place)
ending_returned (Err fault.CannotRead) = Some CannotRead
ending_returned (Err fault.CannotWrite) = Some CannotWrite
ending_returned (Err fault.OutOfMemory) = Some OutOfMemory
ending_returned (Err fault.BadHex) = None
ending_returned (Err (fault.BadItem place)) = None
ending_returned (Err (fault.IndexRepeated place)) = None
ending_returned (Err fault.NotEvidence) = None
ending_returned (Err fault.BadRecord) = None
ending_returned (Err fault.OtherKeys) = None
ending_returned (Err fault.CannotListen) = None

-- it ended so
abbrev pub PlaysTo : (List ℕ → Printout) → Option (List ℕ) → Option (List ℕ) → Option (List ℕ) → Result (Unit {0}) ProgramFault → Type 0
PlaysTo printed input old new result = IsSomeAnd (ending_returned result) (Plays printed input old new)
