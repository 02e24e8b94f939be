-- What a fault says.
use Rattle.std.specs.Prelude.{ℕ, List, ◌++◌, Result, Err, codes, decimal, ⊤}
use Rattle.std.specs.declared.io.ErrorKind.{ErrorKind}
use Rattle.std.specs.declared.io.ErrorKind.TheVariants as io
use Rattle.textio.specs.declared.stream_fault.StreamFault.{StreamFault}
use Rattle.textio.specs.declared.stream_fault.StreamFault.TheVariants as stream
use Rattle.textio.specs.declared.program_fault.ProgramFault.{ProgramFault}
use Rattle.textio.specs.declared.program_fault.ProgramFault.TheVariants.{BadHex, BadItem, IndexRepeated, NotACommand, NotEvidence, BadRecord, OtherKeys, CannotRead, CannotWrite, CannotListen, OutOfMemory}

-- what a program says of a read or a write that failed
abbrev pub of_stream : StreamFault → ProgramFault
of_stream stream.CannotRead = CannotRead
of_stream stream.CannotWrite = CannotWrite

-- what is said of an error of this kind, which the system gave for a file
abbrev pub of_system : ErrorKind → ProgramFault
of_system io.OutOfMemory = OutOfMemory
of_system _ = CannotRead

-- the line that tells a fault
abbrev pub fault_text : ProgramFault → List ℕ
fault_text BadHex = codes "bad hex\n"
fault_text (BadItem line) = codes "line " ++ decimal line ++ codes ": bad item\n"
fault_text (IndexRepeated line) = codes "line " ++ decimal line ++ codes ": index repeated\n"
fault_text (NotACommand line) = codes "line " ++ decimal line ++ codes ": not a command\n"
fault_text NotEvidence = codes "not an evidence file\n"
fault_text BadRecord = codes "journal: bad record\n"
fault_text OtherKeys = codes "journal: other keys\n"
fault_text CannotRead = codes "cannot read\n"
fault_text CannotWrite = codes "cannot write\n"
fault_text CannotListen = codes "cannot listen\n"
fault_text OutOfMemory = codes "out of memory\n"

-- A fault that speaks of the input is one that is said of it. A failed read and want of memory speak
-- of no input.
abbrev pub IsTold : {T : Type 0} → ProgramFault → (Result T ProgramFault → Type 0) → Type 0
IsTold BadHex Says = Says (Err BadHex)
IsTold (BadItem line) Says = Says (Err (BadItem line))
IsTold (IndexRepeated line) Says = Says (Err (IndexRepeated line))
IsTold (NotACommand line) Says = Says (Err (NotACommand line))
IsTold NotEvidence Says = Says (Err NotEvidence)
IsTold BadRecord Says = Says (Err BadRecord)
IsTold OtherKeys Says = Says (Err OtherKeys)
IsTold CannotRead Says = ⊤
IsTold CannotWrite Says = Says (Err CannotWrite)
IsTold CannotListen Says = Says (Err CannotListen)
IsTold OutOfMemory Says = ⊤

-- a read or memory failed
abbrev pub IsDeviceFault : ProgramFault → Type 0
IsDeviceFault BadHex = ⊥
IsDeviceFault (BadItem line) = ⊥
IsDeviceFault (IndexRepeated line) = ⊥
IsDeviceFault (NotACommand line) = ⊥
IsDeviceFault NotEvidence = ⊥
IsDeviceFault BadRecord = ⊥
IsDeviceFault OtherKeys = ⊥
IsDeviceFault CannotRead = ⊤
IsDeviceFault CannotWrite = ⊥
IsDeviceFault CannotListen = ⊥
IsDeviceFault OutOfMemory = ⊤

-- the fault came up while the input was read
abbrev pub IsInputFault : ProgramFault → Type 0
IsInputFault BadHex = ⊥
IsInputFault (BadItem line) = ⊤
IsInputFault (IndexRepeated line) = ⊤
IsInputFault (NotACommand line) = ⊥
IsInputFault NotEvidence = ⊥
IsInputFault BadRecord = ⊥
IsInputFault OtherKeys = ⊥
IsInputFault CannotRead = ⊤
IsInputFault CannotWrite = ⊥
IsInputFault CannotListen = ⊥
IsInputFault OutOfMemory = ⊤
