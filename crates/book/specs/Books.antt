-- What a directory means: pages of names with their keys, one an epoch; what waits for the next page; and
-- the salts to come (CONIKS, sections 3 and 4).
use Rattle.std.specs.Prelude.{ℕ, List, [], ◌∷◌, ◌++◌, ◌==◌, if◌then◌else◌, Option, Some, find}
use Rattle.rand_core.specs.Stream.{Stream}
use Rattle.encoding.specs.declared.bound_key.BoundKey.{BoundKey}
use Rattle.encoding.specs.Maps.{Map}

-- the key that a name is bound to, with its policy if it has one, and the salt of its commitment
pub record Binding : Type 0 where
  pub key : BoundKey
  pub salt : List ℕ

-- the bindings of an epoch, and the nonce of their tree (CONIKS, section 3: snapshot of the directory at an epoch)
pub record Page : Type 0 where
  pub epoch : ℕ
  pub nonce : List ℕ
  pub bindings : Map Binding

-- the pages before the last, the last one, what waits for the next, the next salt, and the stream of
-- salts that is left after it
pub record Book : Type 0 where
  pub earlier : List Page
  pub last : Page
  pub pending : Map Binding
  pub salt : List ℕ
  pub left : Stream

abbrev pub pages : Book → List Page
pages book = book.earlier ++ book.last ∷ []

-- the page of an epoch, where 0 is the last one
abbrev pub page_at : Book → ℕ → Option Page
page_at book epoch = if epoch == 0 then Some book.last else find (λ page. page.epoch == epoch) (pages book)
