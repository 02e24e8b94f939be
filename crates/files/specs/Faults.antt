-- Why a file cannot be opened, read or written.
use Rattle.std.specs.Prelude.{⊤}
use Rattle.textio.specs.declared.program_fault.ProgramFault.{ProgramFault}
use Rattle.textio.specs.declared.program_fault.ProgramFault.TheVariants.{BadHex, BadItem, IndexRepeated, NotACommand, NotEvidence, BadRecord, OtherKeys, CannotRead, CannotWrite, CannotListen, OutOfMemory}
use Rattle.files.specs.declared.opening.LockFault.{LockFault}
use Rattle.files.specs.declared.opening.LockFault.TheVariants.{Taken, File}

-- a read, a write or memory failed
abbrev pub IsSystemFault : ProgramFault → Type 0
IsSystemFault BadHex = ⊥
IsSystemFault (BadItem line) = ⊥
IsSystemFault (IndexRepeated line) = ⊥
IsSystemFault (NotACommand line) = ⊥
IsSystemFault NotEvidence = ⊥
IsSystemFault BadRecord = ⊥
IsSystemFault OtherKeys = ⊥
IsSystemFault CannotRead = ⊤
IsSystemFault CannotWrite = ⊤
IsSystemFault CannotListen = ⊥
IsSystemFault OutOfMemory = ⊤

-- another process has the file, or the system failed
abbrev pub IsLockFault : LockFault → Type 0
IsLockFault Taken = ⊤
IsLockFault (File why) = IsSystemFault why.fault
