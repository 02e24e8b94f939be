-- What a journal's bytes open to: the longest list of whole records that begins them, where the rest is a record
-- of its place that was cut short.
use Rattle.std.specs.Prelude.{◌≡◌, ◌≢◌, ◌⊎◌, ℕ, ◌+◌, ◌<◌, List, [], ◌++◌, length, Some, None, IsSome}
use Rattle.std.specs.List.{AllByRecursion}
use Rattle.rand_core.specs.Stream.{Stream}
use Rattle.encoding.specs.Fields.{Begins}
use Rattle.book.specs.declared.record.Record.{Record}
use Rattle.book.specs.Books.{Book}
use Rattle.book.specs.Fresh.{fresh}
use Rattle.book.specs.Replays.{replayed, replayed_all}
use Rattle.journal.specs.declared.beginning.Beginning.{Beginning}
use Rattle.journal.specs.Records.{record_bytes, records_bytes, start_bytes, IsLater, IsStart}

-- the bytes are a spelling that was cut short, perhaps to nothing
abbrev pub IsCut : {A : Type 0} → (A → List ℕ) → (A → Type 0) → List ℕ → Type 0
IsCut {A} spelling Allowed bytes = (x : A) × (more : List ℕ) × (spelling x ≡ bytes ++ more) × (more ≢ []) × Allowed x

-- the bytes begin no spelling: neither a whole one nor one that was cut short
abbrev pub IsNone : {A : Type 0} → (A → List ℕ) → (A → Type 0) → List ℕ → Type 0
IsNone spelling Allowed bytes = (¬ Begins spelling Allowed bytes) × (¬ IsCut spelling Allowed bytes)

-- the start has these public keys
abbrev pub HasKeys : List ℕ → List ℕ → Beginning → Type 0
HasKeys signing_key vuf_key beginning = (beginning.signing_key ≡ signing_key) × (beginning.vuf_key ≡ vuf_key)

-- the bytes begin with a start of other keys
abbrev pub HasOtherKeys : List ℕ → List ℕ → List ℕ → Type 0
HasOtherKeys signing_key vuf_key bytes = (beginning : Beginning) × (later : List ℕ)
    × (bytes ≡ start_bytes beginning ++ later) × IsStart beginning × (0 < beginning.epoch) × (¬ HasKeys signing_key vuf_key beginning)

module _ (index_of : List ℕ → List ℕ) where
  -- later records stand at the front of the bytes, before this rest, and lead from one book to another
  abbrev pub RecordsLead : Book → List ℕ → Book → List ℕ → Type 0
  RecordsLead before bytes book rest = (records : List Record)
      × (bytes ≡ records_bytes records ++ rest) × AllByRecursion IsLater records × (replayed_all index_of before records ≡ Some book)

  -- the bytes begin no later record; or one whose command the book refuses
  abbrev pub IsBadNext : Book → List ℕ → Type 0
  IsBadNext book rest = IsNone record_bytes IsLater rest
      ⊎ ((kept : Record) × (more : List ℕ) × (rest ≡ record_bytes kept ++ more) × IsLater kept × (replayed index_of book kept ≡ None))

  -- the bytes begin with a later record whose command the book does not refuse
  abbrev pub IsGoodNext : Book → List ℕ → Type 0
  IsGoodNext book rest = (kept : Record) × (more : List ℕ) × (rest ≡ record_bytes kept ++ more) × IsLater kept × IsSome (replayed index_of book kept)

  module _ (signing_key vuf_key : List ℕ) (salts : Stream) where
    -- a start of these keys and later records stand at the front of the bytes, and lead to this book
    abbrev pub ReachesBook : List ℕ → Book → List ℕ → Type 0
    ReachesBook bytes book rest = (beginning : Beginning) × (later : List ℕ)
        × (bytes ≡ start_bytes beginning ++ later) × IsStart beginning × (0 < beginning.epoch) × HasKeys signing_key vuf_key beginning
        × RecordsLead (fresh beginning.epoch beginning.nonce salts) later book rest

    -- the bytes open to this book, by so many of them
    abbrev pub OpensTo : List ℕ → Book → ℕ → Type 0
    OpensTo bytes book taken = (rest : List ℕ) × ReachesBook bytes book rest × IsCut record_bytes IsLater rest × (length bytes ≡ taken + length rest)

    -- what comes first that is no record of its place is no record that was cut short, or it is a start of
    -- epoch 0, or a record whose command is refused
    abbrev pub IsBad : List ℕ → Type 0
    IsBad bytes = IsNone start_bytes IsStart bytes
        ⊎ (((beginning : Beginning) × (later : List ℕ) × (bytes ≡ start_bytes beginning ++ later) × IsStart beginning × (beginning.epoch ≡ 0))
        ⊎ ((book : Book) × (rest : List ℕ) × ReachesBook bytes book rest × IsBadNext book rest))

    -- the bytes begin with a start of these keys
    abbrev pub IsBegun : List ℕ → Type 0
    IsBegun bytes = (book : Book) × (rest : List ℕ) × ReachesBook bytes book rest
