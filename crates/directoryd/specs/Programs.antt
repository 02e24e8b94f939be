-- What the programs do, and how the process ends.
use Rattle.std.specs.Prelude.{◌≡◌, ◌⊎◌, ◌↔◌, ◌&&◌, ℕ, zero, suc, List, Bool, true, false, not, is_some, if◌then◌else◌, Option, Some, None, Result, Ok, Err, IfErr, IfOk, Vec, String, map, string_bytes, codes, ⊤}
use Rattle.std.specs.IoError.{error_kind}
use Rattle.std.specs.declared.io.Error.{Error as IoError}
use Rattle.std.specs.declared.io.ErrorKind.TheVariants as io
use Rattle.std.specs.Io.KnownBytes.{Appends, Keeps}
use Rattle.clap.specs.declared.error.Error.{Error}
use Rattle.clap.specs.Words.{Text, kind_of}
use Rattle.textio.specs.declared.program_fault.ProgramFault.{ProgramFault}
use Rattle.textio.specs.declared.program_fault.ProgramFault.TheVariants.{BadHex, BadItem, IndexRepeated, NotACommand, NotEvidence, BadRecord, OtherKeys, CannotRead, CannotWrite, CannotListen, OutOfMemory}
use Rattle.textio.specs.Digits.{hex32, hex32_or_zeros}
use Rattle.textio.specs.Faults.{fault_text}
use Rattle.textio.specs.Output.{Ends, WritesBeginning}
use Rattle.audits.specs.declared.judging.Verdict.{Verdict}
use Rattle.audits.specs.Auditing.{AuditsText}
use Rattle.audits.specs.Verdicts.{verdict_status, JudgesAt, TellsOfFile}
use Rattle.items.specs.Prove.{Proves}
use Rattle.items.specs.Root.{root_answer}
use Rattle.play.specs.Beginnings.{script_index, script_salts}
use Rattle.play.specs.Plays.{PlaysTo}
use Rattle.play.specs.Printing.{printed}
use Rattle.server.specs.Directories.{keys_of}
use Rattle.server.specs.Listening.{ListenTells}
use Rattle.server.specs.Programs.{DirectoryServes}
use Rattle.directoryd.specs.declared.ending.Ending.{Ending}
use Rattle.directoryd.specs.declared.refusing.TheConstants.{WRONG_WORDS}
use Rattle.directoryd.specs.CommandLine.{status_of, RefusesWords}
use Rattle.directoryd.specs.Orders.{AskTextValues, IsTask, Task, the_root, the_path, the_audit, the_verdict, the_script, the_session, the_connections, the_questions}
use Rattle.directoryd.specs.KeyFiles.{ask_with, directory_with, unusable_ask, unusable_line, provided, HasNoKeys, RefusesKey, Uses}
use Rattle.directoryd.specs.TextNames.{has_last, lacks_command, texted}
use Rattle.directoryd.specs.declared.keys.KeysKind.TheVariants.{Public, Secret}
use Rattle.server.specs.ConnectionOptions.{ConnectionOptions}
use Rattle.server.specs.DirectoryOptions.{DirectoryOptions}
use Rattle.runs.specs.AskOptions.{AskOptions, ask_keys_of}
use Rattle.runs.specs.Ending.{AsksOverSocket, FailsOverSocket}
use Rattle.runs.specs.RunFaults.{IsRunFault}
use Rattle.runs.specs.Runs.{Grows}

-- a program gives a text for its input, and returns this status if the text was written
abbrev pub EndsWithStatus : ℕ → (List ℕ → Result (List ℕ) ProgramFault → Type 0) → Option (List ℕ) → Option (List ℕ) → Option (List ℕ) → Result ℕ ProgramFault → Type 0
EndsWithStatus status Says input old new (Ok given) = (given ≡ status) × Ends Says input old new (Ok tt)
EndsWithStatus status Says input old new (Err fault) = Ends Says input old new (Err fault)

-- an outcome with status 0 if all went well
abbrev pub with_zero : Result (Unit {0}) ProgramFault → Result ℕ ProgramFault
with_zero (Ok done) = Ok 0
with_zero (Err fault) = Err fault

-- an outcome without its status, which is 0 if all went well
abbrev pub without_status : Result ℕ ProgramFault → Result (Unit {0}) ProgramFault
without_status (Ok given) = Ok tt
without_status (Err fault) = Err fault

abbrev pub IsZero : Result ℕ ProgramFault → Type 0
IsZero (Ok given) = given ≡ 0
IsZero (Err fault) = ⊤

-- a verdict as an outcome: its status, or the fault
abbrev pub verdict_outcome : Result Verdict ProgramFault → Result ℕ ProgramFault
verdict_outcome (Ok verdict) = Ok (verdict_status verdict)
verdict_outcome (Err fault) = Err fault

-- memory ran out, and nothing is written
abbrev pub WantsMemory : Option (List ℕ) → Option (List ℕ) → Option (List ℕ) → Option (List ℕ) → Result ℕ ProgramFault → Type 0
WantsMemory out out-new err err-new outcome = (outcome ≡ Err OutOfMemory) × Keeps out out-new × Keeps err err-new

-- a text is written whole, and this status returned; or less of it if a write failed, or nothing if
-- memory ran out
abbrev pub Prints : ℕ → List ℕ → Option (List ℕ) → Option (List ℕ) → Result ℕ ProgramFault → Type 0
Prints status text old new (Ok given) = (given ≡ status) × Appends old new text
Prints status text old new (Err CannotWrite) = WritesBeginning old new text
Prints status text old new (Err OutOfMemory) = Keeps old new
Prints status text old new (Err BadHex) = ⊥
Prints status text old new (Err (BadItem line)) = ⊥
Prints status text old new (Err (IndexRepeated line)) = ⊥
Prints status text old new (Err (NotACommand line)) = ⊥
Prints status text old new (Err NotEvidence) = ⊥
Prints status text old new (Err BadRecord) = ⊥
Prints status text old new (Err OtherKeys) = ⊥
Prints status text old new (Err CannotRead) = ⊥
Prints status text old new (Err CannotListen) = ⊥

-- a session is served, or a line says which key cannot be used
abbrev pub ServesUsed : Option (List ℕ) → DirectoryOptions → Option (List ℕ) → Option (List ℕ) → Option (List ℕ) → Result (Unit {0}) ProgramFault → Option (List ℕ) → Option (List ℕ) → Option (List ℕ) → Type 0
ServesUsed (Some line) used input out err result left out-new err-new = (fault : ProgramFault) × (result ≡ Err fault) × RefusesKey line fault err err-new × Keeps out out-new
ServesUsed None used input out err result left out-new err-new = DirectoryServes used input out err result left out-new err-new

-- a session is served with the keys that are used, or they are not taken
abbrev pub ServesKeyed : DirectoryOptions → Option Text → Option (List ℕ) → Option (List ℕ) → Option (List ℕ) → Option (List ℕ) → Option (List ℕ) → Result (Unit {0}) ProgramFault → Type 0
ServesKeyed asked keys input out out-new err err-new result =
    (HasNoKeys Secret keys err err-new result × Keeps out out-new)
    ⊎ ((used : DirectoryOptions) × (left : Option (List ℕ)) × Uses Secret directory_with keys asked used × ServesUsed (unusable_line used) used input out err result left out-new err-new)

-- connections are answered, or a line says which key cannot be used
abbrev pub ListensUsed : Option (List ℕ) → DirectoryOptions → ConnectionOptions → Option (List ℕ) → Result (Unit {0}) ProgramFault → Option (List ℕ) → Type 0
ListensUsed (Some line) used taken err result err-new = (fault : ProgramFault) × (result ≡ Err fault) × RefusesKey line fault err err-new
ListensUsed None used taken err result err-new = ListenTells used taken err result err-new

-- connections are answered with them, as ordered
abbrev pub ListensKeyed : DirectoryOptions → ConnectionOptions → Option Text → Option (List ℕ) → Option (List ℕ) → Result (Unit {0}) ProgramFault → Type 0
ListensKeyed asked taken keys err err-new result =
    HasNoKeys Secret keys err err-new result
    ⊎ ((used : DirectoryOptions) × Uses Secret directory_with keys asked used × ((result ≡ Err BadHex) ↔ (keys_of used ≡ None)) × ListensUsed (unusable_line used) used taken err result err-new)

-- the line about a name that is to be text where the lines of the input are asked
abbrev pub no_command : List ℕ
no_command = codes "error: '--text' is for a COMMAND of the words; names in the lines of the input are hexadecimal digits\n"

-- the line about a last epoch of words that have none
abbrev pub no_last : List ℕ
no_last = codes "error: '--after' is for the COMMAND 'watch', 'watch2' or 'head' of the words\n"

-- the line about options that the words have no use for, if there are some
abbrev pub wrong_line : AskOptions → AskTextValues → Option (List ℕ)
wrong_line asked texts =
    if texts.is_text && lacks_command asked.words then Some no_command
    else (if is_some asked.after && not (has_last asked.words) then Some no_last else None)

-- a directory is asked, or a line says which key cannot be used
abbrev pub AsksUsed : Type 0 → Option (List ℕ) → AskOptions → Option (List ℕ) → Option (List ℕ) → Option (List ℕ) → Option (List ℕ) → Option (List ℕ) → Result ℕ ProgramFault → Type 0
AsksUsed Clock (Some line) used input out out-new err err-new outcome = (fault : ProgramFault) × (outcome ≡ Err fault) × RefusesKey line fault err err-new × Keeps out out-new
AsksUsed Clock None used input out out-new err err-new outcome = (outcome ≡ Err BadHex → Keeps out out-new × Keeps err err-new)
    × IfErr outcome (λ fault. (fault ≡ BadHex) ⊎ IsRunFault used input fault) × Grows out out-new
    × IfOk outcome (λ status. AsksOverSocket Clock used input status out out-new) × IfErr outcome (λ fault. FailsOverSocket Clock used input fault out out-new)

-- a directory is asked with the keys that are used, or they are not taken: a text that is no key is a fault before all else
abbrev pub AsksFrom : Type 0 → AskOptions → AskTextValues → Option (List ℕ) → Option (List ℕ) → Option (List ℕ) → Option (List ℕ) → Option (List ℕ) → Result ℕ ProgramFault → Type 0
AsksFrom Clock asked texts input out out-new err err-new outcome =
    (HasNoKeys Public texts.provider err err-new outcome × Keeps out out-new)
    ⊎ ((HasNoKeys Secret texts.keys err err-new outcome × Keeps out out-new)
    ⊎ ((public used : AskOptions) × Uses Public provided texts.provider asked public × Uses Secret ask_with texts.keys public used
    × ((outcome ≡ Err BadHex) ↔ (ask_keys_of used ≡ None)) × AsksUsed Clock (unusable_ask used) used input out out-new err err-new outcome))

-- such a line is told
abbrev pub RefusesLine : List ℕ → Option (List ℕ) → Option (List ℕ) → Option (List ℕ) → Option (List ℕ) → Result ℕ ProgramFault → Type 0
RefusesLine line out out-new err err-new outcome = Keeps out out-new × Prints WRONG_WORDS line err err-new outcome

-- so with a name that is text, if it is among the words; or the words have no use for an option
abbrev pub AsksUnless : Type 0 → Option (List ℕ) → AskOptions → AskTextValues → Option (List ℕ) → Option (List ℕ) → Option (List ℕ) → Option (List ℕ) → Option (List ℕ) → Result ℕ ProgramFault → Type 0
AsksUnless Clock (Some line) asked texts input out out-new err err-new outcome = RefusesLine line out out-new err err-new outcome
AsksUnless Clock None asked texts input out out-new err err-new outcome =
    WantsMemory out out-new err err-new outcome ⊎ AsksFrom Clock (texted texts.is_text asked) texts input out out-new err err-new outcome

abbrev pub AsksKeyed : Type 0 → AskOptions → AskTextValues → Option (List ℕ) → Option (List ℕ) → Option (List ℕ) → Option (List ℕ) → Option (List ℕ) → Result ℕ ProgramFault → Type 0
AsksKeyed Clock asked texts = AsksUnless Clock (wrong_line asked texts) asked texts

-- What is ordered is done: a root is written, or the path of an index; an input is audited; a file is judged;
-- a script is played; a directory begins, or goes on from its journal, and serves one session; one serves
-- connections, and writes its address to the errors; or a directory is asked. The line about a journal is on
-- the errors too.
abbrev pub Obeys : Type 0 → Task → Option (List ℕ) → Option (List ℕ) → Option (List ℕ) → Option (List ℕ) → Option (List ℕ) → Result ℕ ProgramFault → Type 0
Obeys Clock (the_root asked) input out out-new err err-new outcome = EndsWithStatus 0 (λ input said. root_answer asked input ≡ said) input out out-new outcome × Keeps err err-new
Obeys Clock (the_path index asked) input out out-new err err-new outcome = EndsWithStatus 0 (Proves asked.hash (hex32_or_zeros asked.nonce) (hex32 index)) input out out-new outcome × Keeps err err-new
Obeys Clock (the_audit key) input out out-new err err-new outcome = IsZero outcome × Keeps err err-new
    × (left : Option (List ℕ)) × AuditsText key input left out (without_status outcome) out-new
Obeys Clock (the_verdict key file) input out out-new err err-new outcome =
    (verdict : Result Verdict ProgramFault) × (outcome ≡ verdict_outcome verdict) × JudgesAt key out verdict out-new × TellsOfFile file verdict err err-new
Obeys Clock the_script input out out-new err err-new outcome = IsZero outcome × Keeps err err-new
    × PlaysTo (printed script_index script_salts) input out out-new (without_status outcome)
Obeys Clock (the_session asked keys) input out out-new err err-new outcome = IsZero outcome
    × ServesKeyed asked keys input out out-new err err-new (without_status outcome)
Obeys Clock (the_connections asked taken keys) input out out-new err err-new outcome = IsZero outcome × Keeps out out-new
    × ListensKeyed asked taken keys err err-new (without_status outcome)
Obeys Clock (the_questions asked texts) input out out-new err err-new outcome = AsksKeyed Clock asked texts input out out-new err err-new outcome

-- Words that order nothing are answered by a text of clap's, on the output with status 0, on the errors
-- with any other. The other stream stays.
abbrev pub ShowsText : ℕ → Option (List ℕ) → Option (List ℕ) → Option (List ℕ) → Option (List ℕ) → Result ℕ ProgramFault → Type 0
ShowsText zero out out-new err err-new outcome = ((text : List ℕ) × Prints 0 text out out-new outcome) × Keeps err err-new
ShowsText (suc n) out out-new err err-new outcome = Keeps out out-new × ((text : List ℕ) × Prints (suc n) text err err-new outcome)

-- what the words order is done
abbrev pub DoesOrder : Type 0 → List Text → Option (List ℕ) → Option (List ℕ) → Option (List ℕ) → Option (List ℕ) → Option (List ℕ) → Result ℕ ProgramFault → Type 0
DoesOrder Clock words input out out-new err err-new outcome = (what : Task) × IsTask words what × Obeys Clock what input out out-new err err-new outcome

-- clap refuses the words, or they ask for help
abbrev pub Refused : List Text → Option (List ℕ) → Option (List ℕ) → Option (List ℕ) → Option (List ℕ) → Result ℕ ProgramFault → Type 0
Refused words out out-new err err-new outcome = (error : Error) × RefusesWords words error
    × ShowsText (status_of (kind_of error)) out out-new err err-new outcome

-- what comes of words and an input
abbrev pub RunsProgram : Type 0 → List Text → Option (List ℕ) → Option (List ℕ) → Option (List ℕ) → Option (List ℕ) → Option (List ℕ) → Result ℕ ProgramFault → Type 0
RunsProgram Clock words input out out-new err err-new outcome =
    DoesOrder Clock words input out out-new err err-new outcome ⊎ (Refused words out out-new err err-new outcome ⊎ WantsMemory out out-new err err-new outcome)

-- the line about words that are not UTF-8
abbrev pub no_text : List ℕ
no_text = codes "error: invalid UTF-8 was detected in one or more arguments\n"

-- what comes of what the process is given: the words, or why there are none; and the input, or none if
-- memory ran out
abbrev pub StartsProgram : {A B R : Type 0} → Type 0 → (R → Option (List ℕ)) → Result (Vec (String A) B) IoError → Result R IoError
    → Option (List ℕ) → Option (List ℕ) → Option (List ℕ) → Option (List ℕ) → Result ℕ ProgramFault → Type 0
StartsProgram Clock remaining (Err error) reader out out-new err err-new outcome = Keeps out out-new
    × Prints WRONG_WORDS no_text err err-new outcome × ((outcome ≡ Err OutOfMemory) ↔ (error_kind error ≡ io.OutOfMemory))
StartsProgram Clock remaining (Ok words) (Err error) out out-new err err-new outcome = WantsMemory out out-new err err-new outcome
StartsProgram Clock remaining (Ok words) (Ok reader) out out-new err err-new outcome = RunsProgram Clock (map string_bytes words.items) (remaining reader) out out-new err err-new outcome

-- a fault's line is written, whole or, if a write failed, less of it
abbrev pub TellsFault : Bool → List ℕ → Option (List ℕ) → Option (List ℕ) → Type 0
TellsFault true text old new = Appends old new text
TellsFault false text old new = WritesBeginning old new text

-- how the process ends: with the status that was returned, or with the fault's line and status 1
abbrev pub EndsAs : Result ℕ ProgramFault → Option (List ℕ) → Option (List ℕ) → Ending → Type 0
EndsAs (Ok status) old new ending = (ending ≡ record { status = status; is_told = true }) × Keeps old new
EndsAs (Err fault) old new ending = (ending.status ≡ 1) × TellsFault ending.is_told (fault_text fault) old new
