-- A book as a directory begins it.
use Rattle.std.specs.Prelude.{ℕ, List, []}
use Rattle.rand_core.specs.Stream.{Stream, fill_bytes}
use Rattle.book.specs.Books.{Book}

-- one page without a name, and the first salt of the stream
abbrev pub fresh : ℕ → List ℕ → Stream → Book
fresh epoch nonce salts = record {
  earlier = [];
  last = record { epoch = epoch; nonce = nonce; bindings = [] };
  pending = [];
  salt = (fill_bytes 32 salts).0;
  left = (fill_bytes 32 salts).1;
}
