-- What comes of opening a journal, by what its bytes are.
use Rattle.std.specs.Prelude.{◌≡◌, ◌<◌, ◌+◌, ℕ, List, length, None, Result, Ok, Err, IsSome}
use Rattle.rand_core.specs.Stream.{Stream}
use Rattle.book.specs.declared.record.Record.{Record}
use Rattle.book.specs.Books.{Book}
use Rattle.book.specs.Replays.{replayed}
use Rattle.epochs.specs.DirectoryStates.{book}
use Rattle.journal.specs.declared.beginning.Beginning.{Beginning}
use Rattle.journal.specs.declared.opening.Opened.{Opened}
use Rattle.journal.specs.declared.opening.Opened.TheVariants.{Nothing, Directory}
use Rattle.journal.specs.declared.open_refusal.Refusal.{Refusal}
use Rattle.journal.specs.declared.open_refusal.Refusal.TheVariants.{BadRecord, OtherKeys, Memory}
use Rattle.journal.specs.Openings.{HasKeys, HasOtherKeys, IsBad, IsBadNext, IsBegun, IsCut, IsGoodNext, OpensTo, RecordsLead}
use Rattle.journal.specs.Records.{record_bytes, start_bytes, IsLater, IsStart}

-- a directory of these keys may begin so
abbrev pub BeginsSo : List ℕ → List ℕ → Beginning → Type 0
BeginsSo signing_key vuf_key beginning = (0 < beginning.epoch) × HasKeys signing_key vuf_key beginning

-- why it may not, or memory is wanting
abbrev pub IsNotBegun : List ℕ → List ℕ → Beginning → Refusal → Type 0
IsNotBegun signing_key vuf_key beginning BadRecord = beginning.epoch ≡ 0
IsNotBegun signing_key vuf_key beginning OtherKeys = (0 < beginning.epoch) × (¬ HasKeys signing_key vuf_key beginning)
IsNotBegun signing_key vuf_key beginning Memory = BeginsSo signing_key vuf_key beginning

-- why a record is not carried out on a book; or memory is wanting, where the book does not refuse it
abbrev pub IsNotReplayed : (List ℕ → List ℕ) → Book → Record → Refusal → Type 0
IsNotReplayed index_of before kept BadRecord = replayed index_of before kept ≡ None
IsNotReplayed index_of before kept OtherKeys = ⊥
IsNotReplayed index_of before kept Memory = IsSome (replayed index_of before kept)

-- The records at the front lead to a book, and what is left is a record that was cut short; or it is bad, as
-- the book stands; or memory is wanting for the next record, which the book does not refuse.
abbrev pub OpensUpTo : (List ℕ → List ℕ) → Book → List ℕ → Result ℕ Refusal → Book → List ℕ → Type 0
OpensUpTo index_of before bytes (Ok taken) after rest =
    RecordsLead index_of before bytes after rest × IsCut record_bytes IsLater rest × (length bytes ≡ taken + length rest)
OpensUpTo index_of before bytes (Err BadRecord) after rest = RecordsLead index_of before bytes after rest × IsBadNext index_of after rest
OpensUpTo index_of before bytes (Err OtherKeys) after rest = ⊥
OpensUpTo index_of before bytes (Err Memory) after rest = RecordsLead index_of before bytes after rest × IsGoodNext index_of after rest

module _ (index_of : List ℕ → List ℕ) (signing_key vuf_key : List ℕ) (salts : Stream) where
  -- the bytes are no whole start; or they open to this directory, which has the keys of the start
  abbrev pub Opens : {H V S R : Type 0} → (R → Stream) → List ℕ → Opened H V S R → Type 0
  Opens stream bytes Nothing = IsCut start_bytes IsStart bytes
  Opens stream bytes (Directory directory taken) = OpensTo index_of signing_key vuf_key salts bytes (book stream directory) taken
      × (directory.signing_key ≡ signing_key) × (directory.vuf_key ≡ vuf_key)

  -- why they open to nothing
  abbrev pub IsOpenRefusal : List ℕ → Refusal → Type 0
  IsOpenRefusal bytes BadRecord = IsBad index_of signing_key vuf_key salts bytes
  IsOpenRefusal bytes OtherKeys = HasOtherKeys signing_key vuf_key bytes
  IsOpenRefusal bytes Memory = IsBegun index_of signing_key vuf_key salts bytes
