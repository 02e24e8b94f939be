-- Faults of a session as those of a program.
use Rattle.std.specs.Prelude.{Result, Ok, Err}
use Rattle.textio.specs.declared.stream_fault.StreamFault.{StreamFault}
use Rattle.textio.specs.declared.stream_fault.StreamFault.TheVariants as stream
use Rattle.textio.specs.declared.program_fault.ProgramFault.{ProgramFault}
use Rattle.textio.specs.declared.program_fault.ProgramFault.TheVariants as program
use Rattle.server.specs.declared.serve_fault.ServeFault.{ServeFault}
use Rattle.server.specs.declared.serve_fault.ServeFault.TheVariants.{CannotRead, CannotWrite, OutOfMemory, OutOfMemoryAndCannotWrite}

abbrev pub serve_fault : StreamFault → ServeFault
serve_fault stream.CannotRead = CannotRead
serve_fault stream.CannotWrite = CannotWrite

-- the program's fault for a session that could not be served to its end
abbrev pub of_serving : ServeFault → ProgramFault
of_serving CannotRead = program.CannotRead
of_serving CannotWrite = program.CannotWrite
of_serving OutOfMemory = program.OutOfMemory
of_serving OutOfMemoryAndCannotWrite = program.CannotWrite

-- the end of a session as that of the program
abbrev pub outcome_of : Result (Unit {0}) ServeFault → Result (Unit {0}) ProgramFault
outcome_of (Ok done) = Ok tt
outcome_of (Err fault) = Err (of_serving fault)
