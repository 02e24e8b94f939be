-- How many bytes a name, a key and a small value have (the limits are this directory's own).
use Rattle.std.specs.Prelude.{ℕ, ◌≤◌, List, length}
use Rattle.encoding.specs.Bytes.{IsBytes}
use Rattle.encoding.specs.declared.bounded.TheConstants.{MIN_LEN}
use Rattle.encoding.specs.declared.key_data.TheConstants.{MAX_KEY_DATA_LEN}
use Rattle.encoding.specs.declared.name.TheConstants.{MAX_NAME_LEN}
use Rattle.encoding.specs.declared.small.TheConstants.{MAX_SMALL_LEN}

-- a number of bytes within these limits
abbrev pub IsWithin : ℕ → ℕ → List ℕ → Type 0
IsWithin least most bytes = (least ≤ length bytes) × (length bytes ≤ most) × IsBytes bytes

-- at least one byte, and at most this many
abbrev pub IsBounded : ℕ → List ℕ → Type 0
IsBounded = IsWithin MIN_LEN

-- the name of a user
abbrev pub IsName : List ℕ → Type 0
IsName = IsBounded MAX_NAME_LEN

-- the key that is bound to a name
abbrev pub IsKeyData : List ℕ → Type 0
IsKeyData = IsBounded MAX_KEY_DATA_LEN

-- a signature, or the value of a verifiable function
abbrev pub IsSmall : List ℕ → Type 0
IsSmall = IsBounded MAX_SMALL_LEN
