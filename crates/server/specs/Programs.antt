-- What the programs that serve do.
use Rattle.std.specs.Prelude.{◌≡◌, ◌⊎◌, ℕ, false, List, Option, None, Some, Result, Ok, Err, codes}
use Rattle.std.specs.Io.KnownBytes.{Appends, Keeps}
use Rattle.rand_chacha.specs.ChaCha.{ChaCha}
use Rattle.nodehash.specs.Sha256.{sha256}
use Rattle.vrfiface.specs.StandIns.{keyed_value, KeyedAccepts}
use Rattle.sigiface.specs.StandIn.{keyed_signature, KeyedVerifies}
use Rattle.book.specs.declared.keeper.NoKeeper.{NoKeeper}
use Rattle.book.specs.declared.record.Record.{Record}
use Rattle.book.specs.Keeps.{KeepsNothing, NeverFails}
use Rattle.book.specs.Salts.{chacha_salts}
use Rattle.hub.specs.DeskRuns.{ShowHonestRun}
use Rattle.hub.specs.Desks.{DeskState, DeskAnswers}
use Rattle.hub.specs.Exchanges.{Exchange}
use Rattle.hub.specs.Runs.{AllAnswered, Line}
use Rattle.textio.specs.declared.program_fault.ProgramFault.{ProgramFault}
use Rattle.textio.specs.declared.program_fault.ProgramFault.TheVariants.{BadHex, BadItem, IndexRepeated, NotACommand, NotEvidence, BadRecord, OtherKeys, CannotRead, CannotWrite, CannotListen, OutOfMemory}
use Rattle.server.specs.declared.serve_fault.ServeFault.{ServeFault}
use Rattle.server.specs.declared.serve_fault.ServeFault.TheVariants as fault
use Rattle.journal.specs.Journals.{KeepsRecord, LosesRecord, JournalState}
use Rattle.textio.specs.Output.{WritesBeginning}
use Rattle.files.specs.Telling.{TellsError}
use Rattle.server.specs.declared.journal_file.DiskFile.{DiskFile}
use Rattle.server.specs.declared.streams.TheConstants.{SESSION}
use Rattle.server.specs.Faults.{outcome_of}
use Rattle.server.specs.Reopening.{journal_line, IsUnopened, Reopens}
use Rattle.server.specs.DirectoryOptions.{DirectoryOptions}
use Rattle.server.specs.Directories.{keys_of, DirectoryKeys, HasBegun}
use Rattle.server.specs.Serving.{RepliedHonestly, Serves}

-- the desk of a served directory, under the stand-ins
module _ {K : Type 0} (kept failed : K → Record → K → Type 0) where
  -- what the desk of a served directory replies to the messages of its one session
  abbrev pub ServedReplied : DeskState ChaCha K → List Exchange → DeskState ChaCha K → Type 0
  ServedReplied = RepliedHonestly sha256 keyed_value keyed_signature chacha_salts kept failed KeyedAccepts KeyedVerifies SESSION

  -- its desk answers these messages, of whichever sessions, one after another, and they show one run of its directory
  abbrev pub ShownBy : DeskState ChaCha K → List Line → DeskState ChaCha K → Type 0
  ShownBy before lines after = AllAnswered (DeskAnswers sha256 keyed_value keyed_signature chacha_salts kept failed) before lines after
      × ShowHonestRun sha256 keyed_value keyed_signature chacha_salts kept failed KeyedAccepts KeyedVerifies before lines after

-- the directory of these keys is begun, and one session is served
abbrev pub ServesFrom : DirectoryOptions → Option (List ℕ) → Option (List ℕ) → Result (Unit {0}) ServeFault → Option (List ℕ) → Option (List ℕ) → Type 0
ServesFrom asked input written result left told = (keys : DirectoryKeys) × (begun after : DeskState ChaCha NoKeeper)
    × (keys_of asked ≡ Some keys) × HasBegun keys begun.directory × (begun.token ≡ keys.token)
    × Serves (ServedReplied KeepsNothing NeverFails) begun input written result after left told

-- What comes of an order without a journal, and an input: the texts are no keys, and nothing is done; or a session is
-- served, to its end or to its fault. Memory may run out before the directory begins. A failed write is told where
-- memory ran out too.
abbrev pub ServesUnkept : DirectoryOptions → Option (List ℕ) → Option (List ℕ) → Result (Unit {0}) ProgramFault → Option (List ℕ) → Option (List ℕ) → Type 0
ServesUnkept asked input written (Ok done) left told = ServesFrom asked input written (Ok done) left told
ServesUnkept asked input written (Err BadHex) left told = (keys_of asked ≡ None) × Keeps written told
ServesUnkept asked input written (Err CannotRead) left told = ServesFrom asked input written (Err fault.CannotRead) left told
ServesUnkept asked input written (Err CannotWrite) left told =
    ServesFrom asked input written (Err fault.CannotWrite) left told ⊎ ServesFrom asked input written (Err fault.OutOfMemoryAndCannotWrite) left told
ServesUnkept asked input written (Err OutOfMemory) left told =
    ((keys : DirectoryKeys) × (keys_of asked ≡ Some keys) × Keeps input left × Keeps written told) ⊎ ServesFrom asked input written (Err fault.OutOfMemory) left told
ServesUnkept asked input written (Err (BadItem line)) left told = ⊥
ServesUnkept asked input written (Err (IndexRepeated line)) left told = ⊥
ServesUnkept asked input written (Err (NotACommand line)) left told = ⊥
ServesUnkept asked input written (Err NotEvidence) left told = ⊥
ServesUnkept asked input written (Err BadRecord) left told = ⊥
ServesUnkept asked input written (Err OtherKeys) left told = ⊥
ServesUnkept asked input written (Err CannotListen) left told = ⊥

-- the desk of a directory that is kept in a file, of which no clause knows the bytes
abbrev pub KeptDesk : Type 0
KeptDesk = DeskState ChaCha (JournalState DiskFile)

abbrev pub KeepsInFile : JournalState DiskFile → Record → JournalState DiskFile → Type 0
KeepsInFile = KeepsRecord (λ _. None)

abbrev pub LosesInFile : JournalState DiskFile → Record → JournalState DiskFile → Type 0
LosesInFile = LosesRecord (λ _. None)

-- the bytes of a file led to this desk
abbrev pub IsReopened : DirectoryKeys → KeptDesk → ℕ → ℕ → Type 0
IsReopened keys desk records cut = (bytes held : List ℕ) × Reopens keys bytes desk.directory held records cut
    × (desk.token ≡ keys.token) × (desk.keeper.is_broken ≡ false)

-- where a read or a write failed, a line may say what the system said of the file of a journal
abbrev pub TellsWhy : List ℕ → ProgramFault → Option (List ℕ) → Option (List ℕ) → Type 0
TellsWhy path BadHex old new = Keeps old new
TellsWhy path (BadItem line) old new = Keeps old new
TellsWhy path (IndexRepeated line) old new = Keeps old new
TellsWhy path (NotACommand line) old new = Keeps old new
TellsWhy path NotEvidence old new = Keeps old new
TellsWhy path BadRecord old new = Keeps old new
TellsWhy path OtherKeys old new = Keeps old new
TellsWhy path CannotRead old new = TellsError (codes "journal: ") path old new
TellsWhy path CannotWrite old new = TellsError (codes "journal: ") path old new
TellsWhy path CannotListen old new = Keeps old new
TellsWhy path OutOfMemory old new = Keeps old new

-- nothing is told if all went well; else as above
abbrev pub TellsFailure : List ℕ → Result (Unit {0}) ProgramFault → Option (List ℕ) → Option (List ℕ) → Type 0
TellsFailure path (Ok done) old new = Keeps old new
TellsFailure path (Err fault) old new = TellsWhy path fault old new

-- What comes of the journal of a directory of these keys, in the file of this path: it is not opened, and no more is done;
-- or it is, its line is written to the errors, and what is next comes, from this desk on; or the line is not written,
-- and no more is done.
module _ (keys : DirectoryKeys) (path : List ℕ) (errors errors_new : Option (List ℕ)) (result : Result (Unit {0}) ProgramFault) (Undone : Type 0) (Next : KeptDesk → Option (List ℕ) → Type 0) where
  abbrev pub IsNotOpened : Type 0
  IsNotOpened = (fault : ProgramFault) × (result ≡ Err fault) × IsUnopened keys None fault × TellsWhy path fault errors errors_new × Undone

  abbrev pub IsNotTold : ℕ → ℕ → Type 0
  IsNotTold records cut = (result ≡ Err CannotWrite) × WritesBeginning errors errors_new (journal_line records cut) × Undone

  abbrev pub TellsJournal : KeptDesk → ℕ → ℕ → Type 0
  TellsJournal desk records cut = (told : Option (List ℕ)) × Appends errors told (journal_line records cut) × Next desk told

  abbrev pub AfterJournal : Type 0
  AfterJournal = IsNotOpened ⊎ ((desk : KeptDesk) × (records cut : ℕ) × IsReopened keys desk records cut × (IsNotTold records cut ⊎ TellsJournal desk records cut))

-- a session is served at a desk, to its end or to its fault, and the journal may be why it failed
abbrev pub ServesAt : List ℕ → Option (List ℕ) → Option (List ℕ) → Result (Unit {0}) ProgramFault → Option (List ℕ) → Option (List ℕ) → Option (List ℕ) → KeptDesk → Option (List ℕ) → Type 0
ServesAt path input written result left told errors_new desk errors = TellsFailure path result errors errors_new × (outcome : Result (Unit {0}) ServeFault) × (after : KeptDesk)
    × (result ≡ outcome_of outcome) × Serves (ServedReplied KeepsInFile LosesInFile) desk input written outcome after left told

-- What comes of an order with a journal, and an input: the texts are no keys, and nothing is done; or a session is
-- served behind the journal.
abbrev pub ServesKept : DirectoryOptions → List ℕ → Option (List ℕ) → Option (List ℕ) → Option (List ℕ) → Result (Unit {0}) ProgramFault → Option (List ℕ) → Option (List ℕ) → Option (List ℕ) → Type 0
ServesKept asked path input written errors result left told errors_new =
    ((result ≡ Err BadHex) × (keys_of asked ≡ None) × Keeps written told × Keeps errors errors_new)
    ⊎ ((keys : DirectoryKeys) × (keys_of asked ≡ Some keys)
    × AfterJournal keys path errors errors_new result (Keeps input left × Keeps written told) (ServesAt path input written result left told errors_new))

-- what comes of an order, by whether it has a journal
abbrev pub ServesBy : Option (List ℕ) → DirectoryOptions → Option (List ℕ) → Option (List ℕ) → Option (List ℕ) → Result (Unit {0}) ProgramFault → Option (List ℕ) → Option (List ℕ) → Option (List ℕ) → Type 0
ServesBy None asked input written errors result left told errors_new = ServesUnkept asked input written result left told × Keeps errors errors_new
ServesBy (Some path) asked input written errors result left told errors_new = ServesKept asked path input written errors result left told errors_new

abbrev pub DirectoryServes : DirectoryOptions → Option (List ℕ) → Option (List ℕ) → Option (List ℕ) → Result (Unit {0}) ProgramFault → Option (List ℕ) → Option (List ℕ) → Option (List ℕ) → Type 0
DirectoryServes asked = ServesBy asked.journal asked
