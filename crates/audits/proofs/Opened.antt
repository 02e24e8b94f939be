-- What comes of a file that is opened, where its key's text is good.
use Rattle.std.proofs.Common.{◌≡◌, ℕ, List, [], Option, Some, Result, Ok, Err, refl}
use Rattle.nodehash.specs.Sha256.{sha256}
use Rattle.textio.specs.Digits.{hex32}
use Rattle.textio.specs.declared.program_fault.ProgramFault.{ProgramFault}
use Rattle.textio.specs.declared.program_fault.ProgramFault.TheVariants.{BadHex, BadItem, IndexRepeated, NotACommand, NotEvidence, BadRecord, OtherKeys, CannotRead, CannotWrite, CannotListen, OutOfMemory}
use Rattle.audits.specs.declared.judging.Verdict.{Verdict}
use Rattle.audits.specs.Verdicts.{Judges, JudgesAt, TellsOfFile}
use Rattle.files.specs.Telling.{TellsError}
use Rattle.files.proofs.Written.{none_told}
use Rattle.textio.specs.Faults.{IsDeviceFault}
use Rattle.std.proofs.KnownBytes.{Keeps-refl}
use Rattle.vrfiface.specs.StandIns.{KeyedAccepts}
use Rattle.sigiface.specs.StandIn.{KeyedVerifies}

pub judged_at : (text key file : List ℕ) (old new : Option (List ℕ)) (result : Result Verdict ProgramFault) → hex32 text ≡ Some key
    → Judges sha256 KeyedAccepts KeyedVerifies key file old result new → JudgesAt text old result new
judged_at text key file old new (Ok verdict) is judged = (file, rw is judged)
judged_at text key file old new (Err NotEvidence) is judged = (file, rw is judged)
judged_at text key file old new (Err CannotWrite) is judged = (file, rw is judged)
judged_at text key file old new (Err OutOfMemory) is judged = rw is (refl, judged)
judged_at text key file old new (Err BadHex) is judged = absurd judged
judged_at text key file old new (Err (BadItem line)) is judged = absurd judged
judged_at text key file old new (Err (IndexRepeated line)) is judged = absurd judged
judged_at text key file old new (Err (NotACommand line)) is judged = absurd judged
judged_at text key file old new (Err BadRecord) is judged = absurd judged
judged_at text key file old new (Err OtherKeys) is judged = absurd judged
judged_at text key file old new (Err CannotRead) is judged = absurd judged
judged_at text key file old new (Err CannotListen) is judged = absurd judged

-- nothing is told of a file that was read
pub nothing_told : (path : List ℕ) (result : Result Verdict ProgramFault) (contents : Option (List ℕ)) → TellsOfFile path result contents contents
nothing_told path (Ok verdict) contents = Keeps-refl contents
nothing_told path (Err CannotRead) contents = ([], none_told contents _)
nothing_told path (Err OutOfMemory) contents = ([], none_told contents _)
nothing_told path (Err NotEvidence) contents = Keeps-refl contents
nothing_told path (Err CannotWrite) contents = Keeps-refl contents
nothing_told path (Err BadHex) contents = Keeps-refl contents
nothing_told path (Err (BadItem line)) contents = Keeps-refl contents
nothing_told path (Err (IndexRepeated line)) contents = Keeps-refl contents
nothing_told path (Err (NotACommand line)) contents = Keeps-refl contents
nothing_told path (Err BadRecord) contents = Keeps-refl contents
nothing_told path (Err OtherKeys) contents = Keeps-refl contents
nothing_told path (Err CannotListen) contents = Keeps-refl contents

-- what the system said is told where it failed
pub told_of : (path : List ℕ) (fault : ProgramFault) (old new : Option (List ℕ)) → IsDeviceFault fault → TellsError [] path old new → TellsOfFile path (Err fault) old new
told_of path CannotRead old new is tells = tells
told_of path OutOfMemory old new is tells = tells
told_of path NotEvidence old new is tells = absurd is
told_of path CannotWrite old new is tells = absurd is
told_of path BadHex old new is tells = absurd is
told_of path (BadItem line) old new is tells = absurd is
told_of path (IndexRepeated line) old new is tells = absurd is
told_of path (NotACommand line) old new is tells = absurd is
told_of path BadRecord old new is tells = absurd is
told_of path OtherKeys old new is tells = absurd is
told_of path CannotListen old new is tells = absurd is
