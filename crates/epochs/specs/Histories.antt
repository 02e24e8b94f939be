-- How pages can be kept without copies: the versions of each name, each with the number of the first page
-- that shows it.
use Rattle.std.specs.Prelude.{ℕ, List, [], ◌∷◌, nat_le, nat_eq, if◌then◌else◌, Option, Some, None}
use Rattle.book.specs.Books.{Binding}
use Rattle.encoding.specs.Maps.{Map}
use Rattle.epochs.specs.declared.directory.reading.Opening.{Opening}

-- what an opening opens a leaf to
abbrev pub opened_binding : Opening → Binding
opened_binding opening = record { key = opening.key; salt = opening.salt }

pub record Version : Type 0 where
  pub number : ℕ
  pub binding : Binding

-- the first where there is one, else the second
abbrev pub or_else : {X : Type 0} → Option X → Option X → Option X
or_else (Some x) other = Some x
or_else None other = other

-- the last version whose number is at most p: what page p shows
abbrev pub binding_at : ℕ → List Version → Option Binding
binding_at p [] = None
binding_at p (version ∷ versions) = or_else (binding_at p versions) (if nat_le version.number p then Some version.binding else None)

-- the version that waits for page p
abbrev pub waiting : ℕ → List Version → Option Binding
waiting p [] = None
waiting p (version ∷ versions) = or_else (waiting p versions) (if nat_eq version.number p then Some version.binding else None)

abbrev pub with_some : {X : Type 0} → Option X → List ℕ → Map X → Map X
with_some None name map = map
with_some (Some x) name map = (name, x) ∷ map

-- the map of what is chosen of each name's entry, where something is
abbrev pub chosen : {V X : Type 0} → (V → Option X) → Map V → Map X
chosen f [] = []
chosen f (entry ∷ entries) = with_some (f entry.1) entry.0 (chosen f entries)
