-- What a server does with connections, and what it says of where it listens.
use Rattle.std.specs.Prelude.{◌≡◌, ◌⊎◌, ℕ, false, List, ◌++◌, [], ◌∷◌, Option, None, Some, Result, Ok, Err, codes, ⊤}
use Rattle.std.specs.Io.KnownBytes.{Appends, Keeps}
use Rattle.textio.specs.declared.program_fault.ProgramFault.{ProgramFault}
use Rattle.textio.specs.declared.program_fault.ProgramFault.TheVariants.{BadHex, BadItem, IndexRepeated, NotACommand, NotEvidence, BadRecord, OtherKeys, CannotRead, CannotWrite, CannotListen, OutOfMemory}
use Rattle.textio.specs.Output.{WritesBeginning}
use Rattle.nodehash.specs.Sha256.{sha256}
use Rattle.vrfiface.specs.StandIns.{keyed_value}
use Rattle.sigiface.specs.StandIn.{keyed_signature}
use Rattle.book.specs.declared.keeper.NoKeeper.{NoKeeper}
use Rattle.book.specs.declared.record.Record.{Record}
use Rattle.book.specs.Keeps.{KeepsNothing, NeverFails}
use Rattle.book.specs.Salts.{chacha_salts}
use Rattle.rand_chacha.specs.ChaCha.{ChaCha}
use Rattle.wire.specs.declared.answer.TheConstants.{MAX_ANSWER_LEN}
use Rattle.connections.specs.Endings.{AreInside, AreWithin, HasEnded}
use Rattle.connections.specs.Fairness.{IsFair, IsWhole}
use Rattle.connections.specs.Histories.{History}
use Rattle.connections.specs.Laws.{AlwaysWaitWithin}
use Rattle.connections.specs.Soundness.{IsSoundHistory}
use Rattle.connections.specs.Telling.{TellsAll}
use Rattle.hub.specs.Desks.{DeskAnswers, DeskState}
use Rattle.hub.specs.Events.{HubState}
use Rattle.hub.specs.Runs.{Line}
use Rattle.server.specs.ConnectionOptions.{ConnectionOptions, idle_limit, most_open, report_every}
use Rattle.server.specs.DirectoryOptions.{DirectoryOptions}
use Rattle.server.specs.Directories.{keys_of, DirectoryKeys, HasBegun}
use Rattle.server.specs.Programs.{AfterJournal, KeepsInFile, LosesInFile, ShownBy}
use Rattle.server.specs.Sessions.{is_unkept, AlwaysAnswered, AlwaysInOrder, AreLines}

-- the line with an address
abbrev pub address_line : List ℕ → List ℕ
address_line address = codes "listening on " ++ address ++ 10 ∷ []

-- the line of an address is written, or less of it if a write failed; nothing at the other faults that there may be
abbrev pub TellsAddressLine : Option (List ℕ) → Result (Unit {0}) ProgramFault → Option (List ℕ) → Type 0
TellsAddressLine old (Ok done) new = (address : List ℕ) × Appends old new (address_line address)
TellsAddressLine old (Err CannotWrite) new = (address : List ℕ) × WritesBeginning old new (address_line address)
TellsAddressLine old (Err BadHex) new = Keeps old new
TellsAddressLine old (Err CannotListen) new = Keeps old new
TellsAddressLine old (Err OutOfMemory) new = Keeps old new
TellsAddressLine old (Err (BadItem line)) new = ⊥
TellsAddressLine old (Err (IndexRepeated line)) new = ⊥
TellsAddressLine old (Err (NotACommand line)) new = ⊥
TellsAddressLine old (Err NotEvidence) new = ⊥
TellsAddressLine old (Err BadRecord) new = ⊥
TellsAddressLine old (Err OtherKeys) new = ⊥
TellsAddressLine old (Err CannotRead) new = ⊥

-- the line is written, and this is what comes behind it; or none comes
abbrev pub TellsAddress : (Option (List ℕ) → Option (List ℕ) → Type 0) → Option (List ℕ) → Result (Unit {0}) ProgramFault → Option (List ℕ) → Type 0
TellsAddress Next old (Ok done) new = (address : List ℕ) × (told : Option (List ℕ)) × Appends old told (address_line address) × Next told new
TellsAddress Next old (Err fault) new = TellsAddressLine old (Err fault) new

-- What happened to connections is within these limits. It is sound, where one may be idle for so long; no more were
-- taken than may be, at so many places; each round gave each its turn; and nothing is left to be done.
pub record KeepsLimits (idle count size : ℕ) (acts : History) : Type 0 where
  pub sound : IsSoundHistory idle acts
  pub within : AreWithin count acts
  pub ended : HasEnded count acts
  pub fair : IsFair idle count size acts
  pub whole : IsWhole idle acts
  pub inside : AreInside size acts

-- the limits of an order
abbrev pub KeepsOrder : ConnectionOptions → History → Type 0
KeepsOrder taken = KeepsLimits (idle_limit taken) taken.count (most_open taken)

-- Connections are answered from a desk on, as ordered, by the sessions of its hub, which has none at first:
-- there is a history of them, and what is answered in it shows a run. At each time, each connection took a
-- beginning of what its session was answered, as the lines so far have it; no more than 64 KiB and the
-- longest reply ever wait for one; and of each that was closed for want of memory there is a line on the
-- errors, and one line if an edit was refused because its record could not be kept, or a sync failed; reports come where
-- they are wanted, of which no clause says what they tell or when. What ties the history to the sockets is not in a
-- contract.
abbrev pub AnswersConnections : {K : Type 0} → (K → Record → K → Type 0) → (K → Record → K → Type 0) → ConnectionOptions → DeskState ChaCha K → Option (List ℕ) → Option (List ℕ) → Type 0
AnswersConnections {K} kept failed taken desk errors new = (acts : History) × (lines : List Line) × (after : HubState (DeskState ChaCha K))
    × KeepsOrder taken acts × AlwaysWaitWithin MAX_ANSWER_LEN acts × AlwaysInOrder acts
    × AreLines (DeskAnswers sha256 keyed_value keyed_signature chacha_salts kept failed) (record { service = desk; sessions = [] }) acts after lines
    × AlwaysAnswered (DeskAnswers sha256 keyed_value keyed_signature chacha_salts kept failed) (record { service = desk; sessions = [] }) acts lines
    × ShownBy kept failed desk lines after.service × TellsAll is_unkept (report_every taken) false acts errors new

-- connections are answered from the desk of a journal's directory, whose line comes first
abbrev pub TellsKept : DirectoryOptions → List ℕ → ConnectionOptions → Option (List ℕ) → Result (Unit {0}) ProgramFault → Option (List ℕ) → Type 0
TellsKept asked path taken errors result new = ((result ≡ Err BadHex) × Keeps errors new)
    ⊎ ((keys : DirectoryKeys) × (keys_of asked ≡ Some keys)
    × AfterJournal keys path errors new result ⊤ (λ desk told. TellsAddress (AnswersConnections KeepsInFile LosesInFile taken desk) told result new))

-- the directory of these keys is begun, and connections are answered from its desk
abbrev pub ServesBegun : DirectoryOptions → ConnectionOptions → Option (List ℕ) → Option (List ℕ) → Type 0
ServesBegun asked taken errors new = (keys : DirectoryKeys) × (begun : DeskState ChaCha NoKeeper)
    × (keys_of asked ≡ Some keys) × HasBegun keys begun.directory × (begun.token ≡ keys.token) × AnswersConnections KeepsNothing NeverFails taken begun errors new

-- the same without a journal
abbrev pub TellsUnkept : DirectoryOptions → ConnectionOptions → Option (List ℕ) → Result (Unit {0}) ProgramFault → Option (List ℕ) → Type 0
TellsUnkept asked taken = TellsAddress (ServesBegun asked taken)

-- what is written to the errors, and from which desk connections are answered, by whether there is a journal
abbrev pub TellsBy : Option (List ℕ) → DirectoryOptions → ConnectionOptions → Option (List ℕ) → Result (Unit {0}) ProgramFault → Option (List ℕ) → Type 0
TellsBy None asked taken errors result new = TellsUnkept asked taken errors result new
TellsBy (Some path) asked taken errors result new = TellsKept asked path taken errors result new

abbrev pub ListenTells : DirectoryOptions → ConnectionOptions → Option (List ℕ) → Result (Unit {0}) ProgramFault → Option (List ℕ) → Type 0
ListenTells asked = TellsBy asked.journal asked
