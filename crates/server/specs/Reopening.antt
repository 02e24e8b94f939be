-- What a server makes of the file of a journal: the directory that it goes on with, and what the file then holds.
use Rattle.std.specs.Prelude.{◌≡◌, ◌⊎◌, ℕ, ◌+◌, ◌==◌, if◌then◌else◌, List, [], ◌∷◌, ◌++◌, length, take, Option, None, Some, IfSome, codes, decimal, ⊤}
use Rattle.std.specs.Io.KnownBytes.{Keeps}
use Rattle.rand_chacha.specs.ChaCha.{ChaCha, of_seed}
use Rattle.nodehash.specs.Sha256.{sha256}
use Rattle.vrfiface.specs.StandIns.{keyed_value}
use Rattle.sigiface.specs.StandIn.{keyed_signature}
use Rattle.book.specs.Shows.{index_of, keyed_provider}
use Rattle.book.specs.Salts.{chacha_salts}
use Rattle.epochs.specs.DirectoryStates.{book, DirectoryState}
use Rattle.journal.specs.declared.beginning.Beginning.{Beginning}
use Rattle.journal.specs.declared.open_refusal.Refusal.{Refusal}
use Rattle.journal.specs.declared.open_refusal.Refusal.TheVariants as refusal
use Rattle.journal.specs.declared.opening.Opened.{Opened}
use Rattle.journal.specs.Counting.{Counts}
use Rattle.journal.specs.Opened.{Opens}
use Rattle.journal.specs.Openings.{HasOtherKeys, IsBad, IsCut, OpensTo}
use Rattle.journal.specs.Records.{start_bytes, IsStart}
use Rattle.textio.specs.declared.program_fault.ProgramFault.{ProgramFault}
use Rattle.textio.specs.declared.program_fault.ProgramFault.TheVariants.{BadHex, BadItem, IndexRepeated, NotACommand, NotEvidence, BadRecord, OtherKeys, CannotRead, CannotWrite, CannotListen, OutOfMemory}
use Rattle.textio.specs.Output.{WritesBeginning}
use Rattle.server.specs.Directories.{DirectoryKeys, HasBegun}

-- known bytes are cut to their first ones
abbrev pub Cuts : Option (List ℕ) → ℕ → Option (List ℕ) → Type 0
Cuts None size new = ⊤
Cuts (Some bytes) size new = new ≡ Some (take size bytes)

-- the bytes of a file are these, where they are known
abbrev pub FileHolds : Option (List ℕ) → List ℕ → Type 0
FileHolds known bytes = IfSome known (λ all. bytes ≡ all)

-- and afterwards the file holds those
abbrev pub FileBecomes : Option (List ℕ) → List ℕ → Option (List ℕ) → List ℕ → Type 0
FileBecomes known bytes after held = IfSome known (λ all. (bytes ≡ all) × (after ≡ Some held))

-- the salts' generator under a key, at the front of the stream of this number
abbrev pub at_stream : List ℕ → ℕ → ChaCha
at_stream salt_key number = record (of_seed salt_key) { stream = number }

-- the index of a name, by these keys
abbrev pub index_by : DirectoryKeys → List ℕ → List ℕ
index_by keys = index_of (keyed_provider sha256 keyed_value keys.vuf_key keyed_signature keys.signing_key)

-- the start of a new directory of these keys
abbrev pub beginning_with : DirectoryKeys → Beginning
beginning_with keys = record { epoch = keys.epoch; nonce = keys.nonce; signing_key = keys.signing_key; vuf_key = keys.vuf_key }

module _ (keys : DirectoryKeys) (bytes : List ℕ) where
  -- the bytes are a start that was cut short: a new directory begins, and the file holds its start alone
  abbrev pub StartsAnew : DirectoryState ChaCha → List ℕ → ℕ → ℕ → Type 0
  StartsAnew directory held records cut = IsCut start_bytes IsStart bytes × HasBegun keys directory
      × (held ≡ start_bytes (beginning_with keys)) × (records ≡ 0) × (cut ≡ length bytes)

  -- the bytes open to this directory, whose next salts come from the stream that has the number of their
  -- records; the file holds the bytes of these, and the rest is cut off
  abbrev pub Resumes : DirectoryState ChaCha → List ℕ → ℕ → ℕ → Type 0
  Resumes directory held records cut = (taken : ℕ) × Counts bytes records
      × OpensTo (index_by keys) keys.signing_key keys.vuf_key (chacha_salts (at_stream keys.salt_key records)) bytes (book chacha_salts directory) taken
      × (directory.signing_key ≡ keys.signing_key) × (directory.vuf_key ≡ keys.vuf_key) × (held ≡ take taken bytes) × (length bytes ≡ taken + cut)

  abbrev pub Reopens : DirectoryState ChaCha → List ℕ → ℕ → ℕ → Type 0
  Reopens directory held records cut = StartsAnew directory held records cut ⊎ Resumes directory held records cut

  -- the bytes are refused, where the next salts come from the stream that has the number of their records
  abbrev pub IsBadFile : Type 0
  IsBadFile = (records : ℕ) × Counts bytes records × IsBad (index_by keys) keys.signing_key keys.vuf_key (chacha_salts (at_stream keys.salt_key records)) bytes

-- what the bytes of a file open to, with the salts to come from the stream that has the number of their records
abbrev pub HasRead : {H V S : Type 0} → DirectoryKeys → Option (List ℕ) → Opened H V S ChaCha → ℕ → ℕ → Type 0
HasRead keys known opened records size = (bytes : List ℕ) × FileHolds known bytes × (length bytes ≡ size) × Counts bytes records
    × Opens (index_by keys) keys.signing_key keys.vuf_key (chacha_salts (at_stream keys.salt_key records)) chacha_salts bytes opened

-- the bytes that a file holds, where they are known, are cut to none, and the start of a new directory is written
abbrev pub HasStarted : DirectoryKeys → Option (List ℕ) → DirectoryState ChaCha → Option (List ℕ) → Type 0
HasStarted keys known directory after = HasBegun keys directory × IfSome known (λ all. after ≡ Some (start_bytes (beginning_with keys)))

-- the bytes of a file lead to this directory, with this many records and this many bytes cut off, and this is what
-- the file then holds
abbrev pub HasReopened : DirectoryKeys → Option (List ℕ) → DirectoryState ChaCha → Option (List ℕ) → ℕ → ℕ → Type 0
HasReopened keys known directory after records cut =
    (bytes held : List ℕ) × FileBecomes known bytes after held × Reopens keys bytes directory held records cut

-- a file holds less than the start of a new directory, of which a write failed
abbrev pub HoldsLess : DirectoryKeys → Option (List ℕ) → Type 0
HoldsLess keys after = WritesBeginning (Some []) after (start_bytes (beginning_with keys))

-- a file stays as it was, unless it was cut to none and the write of a new directory's start failed
abbrev pub StartsLess : DirectoryKeys → ProgramFault → Option (List ℕ) → Option (List ℕ) → Type 0
StartsLess keys CannotWrite known after = Keeps known after ⊎ IfSome known (λ _. HoldsLess keys after)
StartsLess keys OutOfMemory known after = Keeps known after
StartsLess keys BadHex known after = ⊥
StartsLess keys (BadItem line) known after = ⊥
StartsLess keys (IndexRepeated line) known after = ⊥
StartsLess keys (NotACommand line) known after = ⊥
StartsLess keys NotEvidence known after = ⊥
StartsLess keys BadRecord known after = ⊥
StartsLess keys OtherKeys known after = ⊥
StartsLess keys CannotRead known after = ⊥
StartsLess keys CannotListen known after = ⊥

-- A file stays as it was. Only where its bytes had nothing to take, and the write of a new directory's start
-- failed, it holds a beginning of this start.
abbrev pub StaysAt : DirectoryKeys → ProgramFault → Option (List ℕ) → Option (List ℕ) → Type 0
StaysAt keys CannotWrite known after = Keeps known after ⊎ IfSome known (λ bytes. IsCut start_bytes IsStart bytes × HoldsLess keys after)
StaysAt keys BadRecord known after = Keeps known after
StaysAt keys OtherKeys known after = Keeps known after
StaysAt keys CannotRead known after = Keeps known after
StaysAt keys OutOfMemory known after = Keeps known after
StaysAt keys BadHex known after = ⊥
StaysAt keys (BadItem line) known after = ⊥
StaysAt keys (IndexRepeated line) known after = ⊥
StaysAt keys (NotACommand line) known after = ⊥
StaysAt keys NotEvidence known after = ⊥
StaysAt keys CannotListen known after = ⊥

abbrev pub of_refusal : Refusal → ProgramFault
of_refusal refusal.BadRecord = BadRecord
of_refusal refusal.OtherKeys = OtherKeys
of_refusal refusal.Memory = OutOfMemory

-- why a file is not opened: its bytes are refused, or have other keys, or the system failed
abbrev pub IsUnopened : DirectoryKeys → Option (List ℕ) → ProgramFault → Type 0
IsUnopened keys known BadRecord = (bytes : List ℕ) × FileHolds known bytes × IsBadFile keys bytes
IsUnopened keys known OtherKeys = (bytes : List ℕ) × FileHolds known bytes × HasOtherKeys keys.signing_key keys.vuf_key bytes
IsUnopened keys known CannotRead = ⊤
IsUnopened keys known CannotWrite = ⊤
IsUnopened keys known OutOfMemory = ⊤
IsUnopened keys known BadHex = ⊥
IsUnopened keys known (BadItem line) = ⊥
IsUnopened keys known (IndexRepeated line) = ⊥
IsUnopened keys known (NotACommand line) = ⊥
IsUnopened keys known NotEvidence = ⊥
IsUnopened keys known CannotListen = ⊥

-- what was cut off, where anything was
abbrev pub cut_words : ℕ → List ℕ
cut_words cut = if cut == 0 then [] else (codes ", " ++ decimal cut ++ codes " bytes cut off")

-- the line about a journal that was opened
abbrev pub journal_line : ℕ → ℕ → List ℕ
journal_line records cut = codes "journal: " ++ decimal records ++ codes " records taken" ++ cut_words cut ++ 10 ∷ []
