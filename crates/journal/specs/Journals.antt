-- A journal as a keeper: each record that it keeps is written at the end; after one that was not kept it keeps
-- nothing more.
use Rattle.std.specs.Prelude.{◌≡◌, ◌⊎◌, Bool, true, false, List, ℕ, Option}
use Rattle.std.specs.Io.KnownBytes.{Appends}
use Rattle.textio.specs.Output.{WritesBeginning}
use Rattle.book.specs.declared.record.Record.{Record}
use Rattle.journal.specs.Records.{record_bytes, IsRecord}

-- the writer, and whether a record was not kept
pub record JournalState (W : Type 0) : Type 0 where
  pub writer : W
  pub is_broken : Bool

module _ {W : Type 0} (contents : W → Option (List ℕ)) where
  -- the record is written whole
  abbrev pub KeepsRecord : JournalState W → Record → JournalState W → Type 0
  KeepsRecord before kept after = IsRecord kept × (before.is_broken ≡ false) × (after.is_broken ≡ false)
      × Appends (contents before.writer) (contents after.writer) (record_bytes kept)

  -- a beginning of the record is written, as the write of the rest failed; or nothing, as a record was lost before
  abbrev pub LosesRecord : JournalState W → Record → JournalState W → Type 0
  LosesRecord before lost after = (after.is_broken ≡ true)
      × ((IsRecord lost × (before.is_broken ≡ false) × WritesBeginning (contents before.writer) (contents after.writer) (record_bytes lost))
      ⊎ ((before.is_broken ≡ true) × (after ≡ before)))
