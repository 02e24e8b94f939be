-- The laws that the functions of a provider keep.
use Rattle.std.specs.Prelude.{List, ℕ}
use Rattle.encoding.specs.Bytes.{Is32Bytes}
use Rattle.encoding.specs.Limits.{IsName, IsSmall}
use Rattle.book.specs.Shows.{Provider}

-- the laws of the hash function, of the verifiable function and of the signatures, at the provider's keys
pub record KeepsLaws (accepted verified : List ℕ → List ℕ → List ℕ → Type 0) (key : List ℕ) (provider : Provider) : Type 0 where
  pub digest_size : (text : List ℕ) → Is32Bytes (provider.hash text)
  pub value_is_accepted : (name : List ℕ) → accepted provider.vuf_key name (provider.value name)
  pub value_size : (name : List ℕ) → IsName name → IsSmall (provider.value name)
  pub signature_verifies : (message : List ℕ) → verified key message (provider.sign message)
  pub signature_size : (message : List ℕ) → IsSmall (provider.sign message)
  pub vuf_key_size : Is32Bytes provider.vuf_key
