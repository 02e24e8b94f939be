-- What is kept with a name: its address, which is its value and its index, and its versions.
use Rattle.std.specs.Prelude.{◌≡◌, ℕ, List, [], ◌∷◌, ◌++◌}
use Rattle.std.specs.List.{AllByRecursion}
use Rattle.std.specs.Option.{unwrap_or}
use Rattle.encoding.specs.Maps.{Map, at, put_at}
use Rattle.book.specs.Shows.{Provider, index_of}
use Rattle.epochs.specs.declared.address.Address.{Address}
use Rattle.epochs.specs.Histories.{Version}
use Rattle.epochs.specs.Versions.{at_bytes, versions_of}

pub record HistoryContent : Type 0 where
  pub address : Address
  pub versions : List Version

-- the versions and the address of each name
pub record NamesContent : Type 0 where
  pub versions : Map (List Version)
  pub addresses : Map Address

-- those of the entries of a map, which stand in any order, each at the bytes of its key
abbrev pub named : {K : Type 0} → (K → List ℕ) → List (K × HistoryContent) → NamesContent
named bytes entries = record { versions = at_bytes bytes (λ history. history.versions) entries; addresses = at_bytes bytes (λ history. history.address) entries }

-- the names with this history of a name
abbrev pub with_history : NamesContent → List ℕ → HistoryContent → NamesContent
with_history names name history = record { versions = put_at names.versions name history.versions; addresses = put_at names.addresses name history.address }

-- the names with this as the last version of a name, which keeps its address, or else gets this one
abbrev pub with_name : NamesContent → List ℕ → Address → Version → NamesContent
with_name names name address version = with_history names name (record { address = unwrap_or (at names.addresses name) address; versions = versions_of names.versions name ++ version ∷ [] })

-- the address of a name
abbrev pub address_of : Provider → List ℕ → Address
address_of provider name = record { value = provider.value name; index = index_of provider name }

-- each name has its own
abbrev pub AreAddresses : Provider → Map Address → Type 0
AreAddresses provider addresses = AllByRecursion (λ entry. entry.1 ≡ address_of provider entry.0) addresses
