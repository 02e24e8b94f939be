-- What comes behind a journal that was opened.
use Rattle.std.proofs.Common.{◌≡◌, ℕ, List, false, Option, None, Result, Err, ap, inl, inr, refl}
use Rattle.std.specs.Prelude.{⊤}
use Rattle.std.specs.Io.KnownBytes.{Appends}
use Rattle.rand_chacha.specs.ChaCha.{ChaCha}
use Rattle.epochs.specs.DirectoryStates.{DirectoryState}
use Rattle.journal.specs.Journals.{JournalState}
use Rattle.textio.specs.Output.{WritesBeginning}
use Rattle.textio.specs.declared.program_fault.ProgramFault.{ProgramFault}
use Rattle.textio.specs.declared.program_fault.ProgramFault.TheVariants.{BadHex, BadItem, IndexRepeated, NotACommand, NotEvidence, BadRecord, OtherKeys, CannotRead, CannotWrite, CannotListen, OutOfMemory}
use Rattle.files.specs.Faults.{IsSystemFault}
use Rattle.server.specs.declared.journal_file.DiskFile.{DiskFile}
use Rattle.server.specs.Directories.{DirectoryKeys}
use Rattle.server.specs.Programs.{AfterJournal, IsReopened, KeptDesk, TellsWhy}
use Rattle.server.specs.Reopening.{journal_line, HasReopened, IsUnopened}

-- a fault of the system is one for which a file is not opened
of_system : (keys : DirectoryKeys) (fault : ProgramFault) → IsSystemFault fault → IsUnopened keys None fault
of_system keys CannotRead failed = tt
of_system keys CannotWrite failed = tt
of_system keys OutOfMemory failed = tt
of_system keys BadHex failed = absurd failed
of_system keys (BadItem line) failed = absurd failed
of_system keys (IndexRepeated line) failed = absurd failed
of_system keys (NotACommand line) failed = absurd failed
of_system keys NotEvidence failed = absurd failed
of_system keys BadRecord failed = absurd failed
of_system keys OtherKeys failed = absurd failed
of_system keys CannotListen failed = absurd failed

-- so where the file cannot be opened
pub unopened : (keys : DirectoryKeys) (path : List ℕ) (errors errors_new : Option (List ℕ)) (fault : ProgramFault) (Undone : Type 0) (Next : KeptDesk → Option (List ℕ) → Type 0)
    → IsSystemFault fault × TellsWhy path fault errors errors_new → Undone → AfterJournal keys path errors errors_new (Err fault) Undone Next
unopened keys path errors errors_new fault Undone Next (failed, tells) u = inl (fault, refl, of_system keys fault failed, tells, u)

-- what comes of a journal that is not opened, or whose line is not written, is the same whatever is next
pub undone : (keys : DirectoryKeys) (path : List ℕ) (errors errors_new : Option (List ℕ)) (fault : ProgramFault) (Undone : Type 0) (Next : KeptDesk → Option (List ℕ) → Type 0)
    → AfterJournal keys path errors errors_new (Err fault) ⊤ (λ _ _. ⊥) → Undone → AfterJournal keys path errors errors_new (Err fault) Undone Next
undone keys path errors errors_new fault Undone Next (inl (why, is, unopened, keeps, _)) u = inl (why, is, unopened, keeps, u)
undone keys path errors errors_new fault Undone Next (inr (desk, records, cut, is, inl (failed, writes, _))) u = inr (desk, records, cut, is, inl (failed, writes, u))
undone keys path errors errors_new fault Undone Next (inr (desk, records, cut, is, inr (between, line, never))) u = absurd never

pub untold : (keys : DirectoryKeys) (path : List ℕ) (desk : KeptDesk) (errors errors_new : Option (List ℕ)) (records cut : ℕ) (fault : ProgramFault)
    → IsReopened keys desk records cut → (fault ≡ CannotWrite) × WritesBeginning errors errors_new (journal_line records cut)
    → AfterJournal keys path errors errors_new (Err fault) ⊤ (λ _ _. ⊥)
untold keys path desk errors errors_new records cut fault is (failed, writes) = inr (desk, records, cut, is, inl (ap Err failed, writes, tt))

pub told : (keys : DirectoryKeys) (path : List ℕ) (desk : KeptDesk) (errors between errors_new : Option (List ℕ)) (result : Result (Unit {0}) ProgramFault) (Undone : Type 0) (Next : KeptDesk → Option (List ℕ) → Type 0)
    → ((records cut : ℕ) × IsReopened keys desk records cut × Appends errors between (journal_line records cut)) → Next desk between
    → AfterJournal keys path errors errors_new result Undone Next
told keys path desk errors between errors_new result Undone Next (records, cut, is, line) next = inr (desk, records, cut, is, inr (between, line, next))

pub reopened : (keys : DirectoryKeys) (directory : DirectoryState ChaCha) (journal : JournalState DiskFile) (known after : Option (List ℕ)) (records cut : ℕ) (token : List ℕ) (desk : KeptDesk)
    → HasReopened keys known directory after records cut → journal.is_broken ≡ false → desk ≡ record { directory = directory; keeper = journal; token = token } → token ≡ keys.token
    → IsReopened keys desk records cut
reopened keys directory journal known after records cut token desk (bytes, held, turns, leads) whole is same = rw is (bytes, held, leads, same, whole)
