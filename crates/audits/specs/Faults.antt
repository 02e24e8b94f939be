-- Why a file's text was not read, as a fault of a program.
use Rattle.textio.specs.declared.program_fault.ProgramFault.{ProgramFault}
use Rattle.textio.specs.declared.program_fault.ProgramFault.TheVariants as program
use Rattle.audits.specs.declared.read_fault.ReadFault.{ReadFault}
use Rattle.audits.specs.declared.read_fault.ReadFault.TheVariants.{OutOfMemory, NotEvidence}

abbrev pub of_reading : ReadFault → ProgramFault
of_reading NotEvidence = program.NotEvidence
of_reading OutOfMemory = program.OutOfMemory
