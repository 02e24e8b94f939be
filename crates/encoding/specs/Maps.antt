-- Maps from byte strings to what is held at them, as pairs in the order of the bytes.
use Rattle.std.specs.Prelude.{ℕ, List, [], ◌∷◌, Option}
use Rattle.std.specs.BTreeMap.{is_at, insert_entry}
use Rattle.std.specs.Map.{lookup}
use Rattle.encoding.specs.Bytes.{bytes_cmp}

abbrev pub Map : Type 0 → Type 0
Map X = List (List ℕ × X)

-- what a map has at a key
abbrev pub at : {X : Type 0} → Map X → List ℕ → Option X
at map key = lookup (is_at (bytes_cmp key)) map

-- the map with this at a key, and else as it was
abbrev pub put_at : {X : Type 0} → Map X → List ℕ → X → Map X
put_at map key x = insert_entry bytes_cmp map key x

-- the map with each pair of another put in, in place of what it had at that key
abbrev pub overwritten : {X : Type 0} → Map X → Map X → Map X
overwritten map [] = map
overwritten map (entry ∷ entries) = overwritten (put_at map entry.0 entry.1) entries
