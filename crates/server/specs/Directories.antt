-- The directory that a server begins.
use Rattle.std.specs.Prelude.{◌≡◌, ℕ, List, Option, None, Some}
use Rattle.rand_chacha.specs.ChaCha.{ChaCha, of_seed}
use Rattle.book.specs.Fresh.{fresh}
use Rattle.book.specs.Salts.{chacha_salts}
use Rattle.epochs.specs.DirectoryStates.{book, DirectoryState}
use Rattle.textio.specs.Digits.{hex32, hex32_or_zeros}
use Rattle.server.specs.DirectoryOptions.{DirectoryOptions}

-- the keys of a directory and of its salts, the token of its operator, and how it begins
pub record DirectoryKeys : Type 0 where
  pub signing_key : List ℕ
  pub vuf_key : List ℕ
  pub salt_key : List ℕ
  pub token : List ℕ
  pub epoch : ℕ
  pub nonce : List ℕ

abbrev pub keys_if : Option (List ℕ) → Option (List ℕ) → Option (List ℕ) → Option (List ℕ) → Option (List ℕ) → ℕ → Option DirectoryKeys
keys_if (Some signing_key) (Some vuf_key) (Some salt_key) (Some token) (Some nonce) epoch =
    Some (record { signing_key = signing_key; vuf_key = vuf_key; salt_key = salt_key; token = token; epoch = epoch; nonce = nonce })
keys_if _ _ _ _ _ epoch = None

-- what the texts give, where each is 64 hexadecimal digits
abbrev pub keys_of : DirectoryOptions → Option DirectoryKeys
keys_of asked = keys_if (hex32 asked.signing_key) (hex32 asked.vuf_key) (hex32 asked.salt_key) (hex32 asked.token) (hex32_or_zeros asked.nonce) asked.epoch

-- the directory is at its first page, with these keys, and salts by ChaCha20 under the salt key
pub record HasBegun (keys : DirectoryKeys) (directory : DirectoryState ChaCha) : Type 0 where
  pub book : book chacha_salts directory ≡ fresh keys.epoch keys.nonce (chacha_salts (of_seed keys.salt_key))
  pub vuf_key : directory.vuf_key ≡ keys.vuf_key
  pub signing_key : directory.signing_key ≡ keys.signing_key
