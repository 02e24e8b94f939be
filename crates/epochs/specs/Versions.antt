-- Names with their versions: in which order they stand, and how one more comes.
use Rattle.std.specs.Prelude.{ℕ, ◌<◌, ◌≤◌, List, [], ◌∷◌, ◌++◌}
use Rattle.std.specs.List.{AllByRecursion}
use Rattle.std.specs.List.Sorted.{IsStrictlySortedBy}
use Rattle.std.specs.Map.{keys_of}
use Rattle.std.specs.Option.{unwrap_or}
use Rattle.prefixtree.specs.Placement.{Items}
use Rattle.epochs.specs.Histories.{Version}
use Rattle.encoding.specs.Maps.{Map, at, put_at}
use Rattle.encoding.specs.Bytes.{bytes_cmp}

-- the versions of a name ascend
abbrev pub Ascends : List Version → Type 0
Ascends [] = Unit {0}
Ascends (version ∷ versions) = AllByRecursion (λ later. version.number < later.number) versions × Ascends versions

-- all versions have smaller numbers
abbrev pub AllBefore : ℕ → List Version → Type 0
AllBefore number versions = AllByRecursion (λ version. version.number < number) versions

-- no version has a number above this
abbrev pub AllWithin : ℕ → List Version → Type 0
AllWithin number versions = AllByRecursion (λ version. version.number ≤ number) versions

-- the same of the versions of all names
abbrev pub NamesWithin : ℕ → Map (List Version) → Type 0
NamesWithin number names = AllByRecursion (λ entry. AllWithin number entry.1) names

-- names ascend, and so do the versions of each
pub record AreHistories (names : Map (List Version)) : Type 0 where
  pub names_ascend : IsStrictlySortedBy bytes_cmp (keys_of names)
  pub versions_ascend : AllByRecursion (λ entry. Ascends entry.1) names

-- the versions of a name, none where it has none
abbrev pub versions_of : Map (List Version) → List ℕ → List Version
versions_of names name = unwrap_or (at names name) []

-- the names with this as the last version of a name
abbrev pub with_version : Map (List Version) → List ℕ → Version → Map (List Version)
with_version names name version = put_at names name (versions_of names name ++ version ∷ [])

-- what the entries of a map have, each at the bytes of its key, in the order of these
unfoldable pub at_bytes : {K X Y : Type 0} → (K → List ℕ) → (X → Y) → List (K × X) → Map Y
at_bytes bytes of [] = []
at_bytes bytes of (entry ∷ entries) = put_at (at_bytes bytes of entries) (bytes entry.0) (of entry.1)

-- the items that the entries of a map are, in the order of their indices
abbrev pub in_order : Items → Items
in_order entries = at_bytes (λ index. index) (λ commitment. commitment) entries
