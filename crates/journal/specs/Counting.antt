-- How many whole records stand at the front of bytes: a start, and then others.
use Rattle.std.specs.Prelude.{◌≡◌, ◌⊎◌, ℕ, suc, List, ◌++◌, length}
use Rattle.std.specs.List.{AllByRecursion}
use Rattle.encoding.specs.Fields.{Begins}
use Rattle.book.specs.declared.record.Record.{Record}
use Rattle.journal.specs.declared.beginning.Beginning.{Beginning}
use Rattle.journal.specs.Records.{record_bytes, records_bytes, start_bytes, IsLater, IsStart}

-- so many later records are spelled at the front, and no further one
abbrev pub HasLater : List ℕ → ℕ → Type 0
HasLater bytes n = (records : List Record) × (rest : List ℕ)
    × (bytes ≡ records_bytes records ++ rest) × AllByRecursion IsLater records × (length records ≡ n) × (¬ Begins record_bytes IsLater rest)

-- no start is spelled at the front, and none are counted; or a start is, and so many others follow
abbrev pub Counts : List ℕ → ℕ → Type 0
Counts bytes n = ((¬ Begins start_bytes IsStart bytes) × (n ≡ 0))
    ⊎ ((start : Beginning) × (rest : List ℕ) × (later : ℕ) × (bytes ≡ start_bytes start ++ rest) × IsStart start × HasLater rest later × (n ≡ suc later))
