-- How each script begins (its keys are this form's own).
use Rattle.std.specs.Prelude.{◌≡◌, ℕ, List, replicate}
use Rattle.rand_core.specs.Stream.{Stream}
use Rattle.rand_chacha.specs.ChaCha.{ChaCha, of_seed}
use Rattle.nodehash.specs.Sha256.{sha256}
use Rattle.vrfiface.specs.StandIns.{keyed_value}
use Rattle.book.specs.Fresh.{fresh}
use Rattle.book.specs.Salts.{chacha_salts}
use Rattle.epochs.specs.DirectoryStates.{book, DirectoryState}

-- the key of the provider's signatures, and that of its verifiable function
abbrev pub signing_key : List ℕ
signing_key = replicate 32 1

abbrev pub vuf_key : List ℕ
vuf_key = replicate 32 2

-- the index of a name
abbrev pub script_index : List ℕ → List ℕ
script_index name = sha256 (keyed_value vuf_key name)

-- salts by ChaCha20 under a key of zeros
abbrev pub script_salts : Stream
script_salts = chacha_salts (of_seed (replicate 32 0))

-- the directory at its first page, which is of epoch 1 and has a nonce of zeros
pub record IsScriptStart (directory : DirectoryState ChaCha) : Type 0 where
  pub page : book chacha_salts directory ≡ fresh 1 (replicate 32 0) script_salts
  pub values : directory.vuf_key ≡ vuf_key
  pub signatures : directory.signing_key ≡ signing_key
