-- A list of signed roots whose bytes come in pieces: the roots that are whole are told, one after another,
-- and the bytes of the next one are held (after CONIKS, section 3).
use Rattle.std.specs.Prelude.{◌≡◌, ℕ, zero, suc, ◌+◌, ◌-◌, ◌<◌, ◌≤◌, nat_lt, if◌then◌else◌, List, [], ◌∷◌, ◌++◌, length, take, drop, Result, Ok, Err}
use Rattle.encoding.specs.declared.fault.Fault.{Fault}
use Rattle.encoding.specs.declared.fault.Fault.TheVariants.{Short, Trailing, OutOfRange}
use Rattle.encoding.specs.Reading.{Reading, read_bytes, read_number, read_then, whole_of}
use Rattle.encoding.specs.declared.small.TheConstants.{MAX_SMALL_LEN}
use Rattle.rootchain.specs.declared.root_list.TheConstants.{COUNT_LEN, MAX_ROOTS}
use Rattle.rootchain.specs.declared.signed_root.SignedRoot.{SignedRoot}
use Rattle.rootchain.specs.RootLists.{read_root_count}
use Rattle.rootchain.specs.SignedRoots.{read_signed_root}
use Rattle.rootchain.specs.declared.body.TheConstants.{BODY_LEN}
use Rattle.rootchain.specs.declared.signed_root.TheConstants.{FIXED_LEN}

-- ---- the first root

-- what stands first in bytes
pub data Front : Type 0 where
  -- a root, and the bytes after it
  Whole : SignedRoot → List ℕ → Front
  -- less than a root
  Part : Front
  -- the beginning of what would be a root if its signature were not too long: so many bytes are still to come
  TooLong : ℕ → Front
  -- bytes of a root's length that spell none
  Bad : Front

-- the length of a root's signature, which stands behind its body
unfoldable pub read_signature_len : List ℕ → Reading ℕ
read_signature_len = read_then (read_bytes BODY_LEN) (λ _. read_number 2)

-- a root that has come whole, and the bytes after it
abbrev pub front_read : Result SignedRoot Fault → List ℕ → Front
front_read (Ok root) rest = Whole root rest
front_read (Err fault) rest = Bad

-- what no root begins with, since its signature is too long: it is told once as many bytes are there
abbrev pub too_long : ℕ → List ℕ → Front
too_long len bytes = if nat_lt (length bytes) len then TooLong (len - length bytes) else Bad

abbrev pub front_sized : Reading ℕ → List ℕ → Front
front_sized (Err fault) bytes = Part
front_sized (Ok (size, _)) bytes =
    if nat_lt MAX_SMALL_LEN size then too_long (FIXED_LEN + size) bytes
    else if nat_lt (length bytes) (FIXED_LEN + size) then Part
    else front_read (whole_of (read_signed_root (take (FIXED_LEN + size) bytes))) (drop (FIXED_LEN + size) bytes)

-- A root is looked at once it is whole: its length is known once that of its signature has come.
abbrev pub front : List ℕ → Front
front bytes = front_sized (read_signature_len bytes) bytes

-- ---- all roots

pub data FeedState : Type 0 where
  -- these bytes of the number of roots
  Counts : List ℕ → FeedState
  -- so many roots are still to come, and these bytes of the first of them are there
  Owes : ℕ → List ℕ → FeedState
  -- so many roots are still to come, and the signature of the first is too long: of its bytes, which are not
  -- held, so many are still to come
  Overlong : ℕ → ℕ → FeedState
  -- bytes came that no list has there, or a root was refused
  Failed : FeedState

-- the list has come, and nothing after it
abbrev pub Done : FeedState
Done = Owes 0 []

-- the most roots that are still to come
abbrev pub owed_by : FeedState → ℕ
owed_by (Counts bytes) = MAX_ROOTS
owed_by (Owes left bytes) = left
owed_by (Overlong left missing) = left
owed_by Failed = 0

-- the bytes that are held
abbrev pub held_bytes : FeedState → List ℕ
held_bytes (Counts bytes) = bytes
held_bytes (Owes left bytes) = bytes
held_bytes (Overlong left missing) = []
held_bytes Failed = []

abbrev pub told_by : Front → ℕ → List ℕ → (List ℕ → List SignedRoot × FeedState) → List SignedRoot × FeedState
told_by Part left bytes next = ([], Owes left bytes)
told_by (TooLong missing) left bytes next = ([], Overlong left missing)
told_by Bad left bytes next = ([], Failed)
told_by (Whole root rest) left bytes next = let more = next rest in (root ∷ more.0, more.1)

-- the roots that are whole in these bytes, of so many that are still to come; and what is then held
abbrev pub told : ℕ → List ℕ → List SignedRoot × FeedState
told zero [] = ([], Done)
told zero (_ ∷ _) = ([], Failed)
told (suc left) bytes = told_by (front bytes) (suc left) bytes (told left)

abbrev pub told_counted : Reading ℕ → List ℕ → List SignedRoot × FeedState
told_counted (Ok (count, rest)) bytes = told count rest
told_counted (Err Short) bytes = ([], Counts bytes)
told_counted (Err Trailing) bytes = ([], Failed)
told_counted (Err OutOfRange) bytes = ([], Failed)

-- what is held once more bytes came of a root whose signature is too long: it is told once all have come
abbrev pub passed : ℕ → ℕ → List ℕ → FeedState
passed left missing piece = if nat_lt (length piece) missing then Overlong left (missing - length piece) else Failed

-- the roots that a piece makes whole, and what is held after it
abbrev pub told_from : FeedState → List ℕ → List SignedRoot × FeedState
told_from (Counts bytes) piece = told_counted (read_root_count (bytes ++ piece)) (bytes ++ piece)
told_from (Owes left bytes) piece = told left (bytes ++ piece)
told_from (Overlong left missing) piece = ([], passed left missing piece)
told_from Failed piece = ([], Failed)

-- how many bytes the first root has at least, by those of it that are there
abbrev pub least_root_len : Reading ℕ → ℕ
least_root_len (Ok (size, _)) = FIXED_LEN + size
least_root_len (Err fault) = FIXED_LEN

-- how many bytes there are at least once the number of roots, or the first root, is whole; 0 where no bytes are
-- to be held
abbrev pub least_len : FeedState → ℕ
least_len (Counts bytes) = COUNT_LEN
least_len (Owes zero bytes) = 0
least_len (Owes (suc left) bytes) = least_root_len (read_signature_len bytes)
least_len (Overlong left missing) = 0
least_len Failed = 0

-- what may be held: less than the number, or less than a root
abbrev pub MayBeHeld : FeedState → Type 0
MayBeHeld (Counts bytes) = length bytes < COUNT_LEN
MayBeHeld (Owes left bytes) = (left ≤ MAX_ROOTS) × (front bytes ≡ Part) × (left ≡ 0 → bytes ≡ [])
MayBeHeld (Overlong left missing) = (left ≤ MAX_ROOTS) × (0 < missing)
MayBeHeld Failed = Unit
