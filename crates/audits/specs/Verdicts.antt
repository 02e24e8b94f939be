-- What `judge` says of a file.
use Rattle.std.specs.Prelude.{◌≡◌, ℕ, List, [], Option, None, Some, Result, Ok, Err, IsSome, codes}
use Rattle.std.specs.Io.KnownBytes.{Appends, Keeps}
use Rattle.nodehash.specs.Sha256.{sha256}
use Rattle.textio.specs.Digits.{hex32}
use Rattle.textio.specs.Output.{WritesBeginning}
use Rattle.textio.specs.declared.program_fault.ProgramFault.{ProgramFault}
use Rattle.textio.specs.declared.program_fault.ProgramFault.TheVariants.{BadHex, BadItem, IndexRepeated, NotACommand, NotEvidence, BadRecord, OtherKeys, CannotRead, CannotWrite, CannotListen, OutOfMemory}
use Rattle.auditor.specs.declared.evidence.Evidence.{Evidence}
use Rattle.auditor.specs.Evidence.{IsEvidence}
use Rattle.audits.specs.declared.judging.Verdict.{Verdict}
use Rattle.audits.specs.declared.judging.Verdict.TheVariants as verdict
use Rattle.audits.specs.Files.{IsFileOf}
use Rattle.files.specs.Telling.{TellsError}
use Rattle.vrfiface.specs.StandIns.{KeyedAccepts}
use Rattle.sigiface.specs.StandIn.{KeyedVerifies}

-- the line of a verdict
abbrev pub verdict_line : Verdict → List ℕ
verdict_line verdict.Evidence = codes "evidence\n"
verdict_line verdict.NoEvidence = codes "no evidence\n"

-- the status of a verdict
abbrev pub verdict_status : Verdict → ℕ
verdict_status verdict.Evidence = 0
verdict_status verdict.NoEvidence = 3

module _ (hash : List ℕ → List ℕ) (accepted verified : List ℕ → List ℕ → List ℕ → Type 0) (key : List ℕ) where
  -- the verdict on what a file has: whether it is evidence against the provider of this key
  abbrev pub IsVerdict : Evidence → Verdict → Type 0
  IsVerdict evidence verdict.Evidence = IsEvidence hash accepted verified key evidence
  IsVerdict evidence verdict.NoEvidence = ¬ IsEvidence hash accepted verified key evidence

  abbrev pub IsVerdictOn : List ℕ → Verdict → Type 0
  IsVerdictOn file verdict = (evidence : Evidence) × IsFileOf file evidence × IsVerdict evidence verdict

  -- What comes of a file: the line of its verdict is written, or less of it if a write failed; nothing is
  -- written if the file is not one of evidence, or if memory ran out.
  abbrev pub Judges : List ℕ → Option (List ℕ) → Result Verdict ProgramFault → Option (List ℕ) → Type 0
  Judges file old (Ok verdict) new = IsVerdictOn file verdict × Appends old new (verdict_line verdict)
  Judges file old (Err NotEvidence) new = ((evidence : Evidence) → ¬ IsFileOf file evidence) × Keeps old new
  Judges file old (Err CannotWrite) new = (verdict : Verdict) × IsVerdictOn file verdict × WritesBeginning old new (verdict_line verdict)
  Judges file old (Err OutOfMemory) new = Keeps old new
  Judges file old (Err BadHex) new = ⊥
  Judges file old (Err (BadItem line)) new = ⊥
  Judges file old (Err (IndexRepeated line)) new = ⊥
  Judges file old (Err (NotACommand line)) new = ⊥
  Judges file old (Err BadRecord) new = ⊥
  Judges file old (Err OtherKeys) new = ⊥
  Judges file old (Err CannotRead) new = ⊥
  Judges file old (Err CannotListen) new = ⊥

-- what comes of a key's text and a file
abbrev pub JudgesUnder : Option (List ℕ) → List ℕ → Option (List ℕ) → Result Verdict ProgramFault → Option (List ℕ) → Type 0
JudgesUnder None file old result new = (result ≡ Err BadHex) × Keeps old new
JudgesUnder (Some key) file old result new = Judges sha256 KeyedAccepts KeyedVerifies key file old result new

abbrev pub JudgesFile : List ℕ → List ℕ → Option (List ℕ) → Result Verdict ProgramFault → Option (List ℕ) → Type 0
JudgesFile key = JudgesUnder (hex32 key)

-- What comes of a key's text and a file that is opened: what comes of its bytes, which no clause knows; or
-- it could not be read, or memory ran out, and nothing is written. The key's text was then good.
abbrev pub JudgesAt : List ℕ → Option (List ℕ) → Result Verdict ProgramFault → Option (List ℕ) → Type 0
JudgesAt key old (Err CannotRead) new = IsSome (hex32 key) × Keeps old new
JudgesAt key old (Err OutOfMemory) new = IsSome (hex32 key) × Keeps old new
JudgesAt key old result new = (file : List ℕ) × JudgesFile key file old result new

-- where the file of this path cannot be read, a line may say what the system said of it
abbrev pub TellsOfFile : List ℕ → Result Verdict ProgramFault → Option (List ℕ) → Option (List ℕ) → Type 0
TellsOfFile path (Err CannotRead) old new = TellsError [] path old new
TellsOfFile path (Err OutOfMemory) old new = TellsError [] path old new
TellsOfFile path result old new = Keeps old new
