-- What contracts see of a directory: its book, with the generator of the salts as it stands, its public keys,
-- and how many digests it has taken.
use Rattle.std.specs.Prelude.{◌≡◌, ℕ, List}
use Rattle.rand_core.specs.Stream.{Stream}
use Rattle.book.specs.Books.{Binding, Book, Page}
use Rattle.encoding.specs.Maps.{Map}
use Rattle.book.specs.Shows.{Provider, keyed_provider}

pub record DirectoryState (R : Type 0) : Type 0 where
  pub earlier : List Page
  pub last : Page
  pub pending : Map Binding
  pub salt : List ℕ
  -- the generator of the salts after this one
  pub salts : R
  -- the public keys of the verifiable function and of the signatures
  pub vuf_key : List ℕ
  pub signing_key : List ℕ
  pub digests : ℕ

-- the book, where `stream` says what a generator will give
abbrev pub book : {R : Type 0} → (R → Stream) → DirectoryState R → Book
book stream kept = record { earlier = kept.earlier; last = kept.last; pending = kept.pending; salt = kept.salt; left = stream kept.salts }

-- the functions of the provider, under its public keys
abbrev pub provider : {R : Type 0} → (List ℕ → List ℕ) → (List ℕ → List ℕ → List ℕ) → (List ℕ → List ℕ → List ℕ) → DirectoryState R → Provider
provider digest_of value_of signature_of kept = keyed_provider digest_of value_of kept.vuf_key signature_of kept.signing_key

-- the public keys are those of before
abbrev pub HasKeysOf : {R : Type 0} → DirectoryState R → DirectoryState R → Type 0
HasKeysOf before kept = (kept.vuf_key ≡ before.vuf_key) × (kept.signing_key ≡ before.signing_key)
