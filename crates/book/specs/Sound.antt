-- What is true of each book of a directory.
use Rattle.std.specs.Prelude.{◌≡◌, ◌⊎◌, ℕ, ◌<◌, true, List, length, None, All, AllPairs, IsSome}
use Rattle.std.specs.List.{AllAdjacentBelow}
use Rattle.std.specs.List.Sorted.{IsStrictlySortedBy}
use Rattle.std.specs.Map.{keys_of}
use Rattle.encoding.specs.Bytes.{bytes_cmp, Is32Bytes}
use Rattle.encoding.specs.Limits.{IsKeyData, IsName}
use Rattle.rootchain.specs.Promises.{IsEpoch}
use Rattle.book.specs.Books.{Binding, Book, Page, pages}
use Rattle.book.specs.Steps.{is_final_binding}
use Rattle.encoding.specs.Maps.{Map, at}

-- a name and what is bound to it, within their limits
pub record IsEntry (entry : List ℕ × Binding) : Type 0 where
  pub name : IsName entry.0
  pub key : IsKeyData entry.1.key.value
  pub salt : Is32Bytes entry.1.salt

-- names ascend, so that none stands twice
pub record AreBindings (bindings : Map Binding) : Type 0 where
  pub ascend : IsStrictlySortedBy bytes_cmp (keys_of bindings)
  pub entries : All IsEntry bindings

pub record IsPage (page : Page) : Type 0 where
  pub epoch : IsEpoch page.epoch
  pub nonce : Is32Bytes page.nonce
  pub bindings : AreBindings page.bindings

-- the later page has all names of this one
abbrev pub HasNamesOf : Page → Page → Type 0
HasNamesOf page later = (name : List ℕ) → IsSome (at page.bindings name) → IsSome (at later.bindings name)

-- the later page has what this one has at each name that is final here
abbrev pub HasFinalsOf : Page → Page → Type 0
HasFinalsOf page later = (name : List ℕ) → is_final_binding (at page.bindings name) ≡ true → at later.bindings name ≡ at page.bindings name

-- the last page has the name, or it waits for the next
abbrev pub HoldsName : Book → List ℕ → Type 0
HoldsName book name = IsSome (at book.last.bindings name) ⊎ IsSome (at book.pending name)

pub record IsSound (index_of : List ℕ → List ℕ) (book : Book) : Type 0 where
  -- epochs ascend, and names stay
  pub ascend : AllPairs (λ earlier later. earlier.epoch < later.epoch) (pages book)
  pub stay : AllAdjacentBelow HasNamesOf (pages book) (length (pages book))
  -- final bindings stay, and nothing waits for their names
  pub finals : AllAdjacentBelow HasFinalsOf (pages book) (length (pages book))
  pub settled : (name : List ℕ) → is_final_binding (at book.last.bindings name) ≡ true → at book.pending name ≡ None
  pub pending : AreBindings book.pending
  pub salt : Is32Bytes book.salt
  -- names that are held have indices of their own
  pub apart : (one other : List ℕ) → HoldsName book one → HoldsName book other → index_of one ≡ index_of other → one ≡ other
  pub pages : All IsPage (pages book)
