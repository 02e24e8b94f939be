-- A list of roots in bytes, that a chain takes whole, or refuses (after CONIKS, section 3).
use Rattle.std.specs.Prelude.{◌≡◌, ◌⊎◌, ℕ, Bool, true, false, List, [], Result, Ok, Err}
use Rattle.encoding.specs.Reading.{Reading}
use Rattle.rootchain.specs.declared.chain.taking_pieces.Outcome.{Outcome}
use Rattle.rootchain.specs.declared.chain.taking_pieces.Outcome.TheVariants as outcome
use Rattle.rootchain.specs.declared.signed_root.SignedRoot.{SignedRoot}
use Rattle.rootchain.specs.declared.list_refusal.ListRefusal.{ListRefusal}
use Rattle.rootchain.specs.declared.piece_refusal.PieceRefusal.{PieceRefusal}
use Rattle.rootchain.specs.declared.piece_refusal.PieceRefusal.TheVariants.{Malformed}
use Rattle.rootchain.specs.Chains.{KeyedRoots}
use Rattle.rootchain.specs.RootLists.{read_root_count, read_roots, HasRoots, SpellsRoots}
use Rattle.rootchain.specs.TakingLists.{with_roots, IsListRefusal, StopsAt, Takes}
use Rattle.rootchain.specs.TakingPieces.{of_piece}

abbrev pub announced_by : Reading ℕ → ℕ
announced_by (Ok (count, _)) = count
announced_by (Err fault) = 0

-- how many roots the number at the front of bytes announces; none where no list has such a number
abbrev pub announced : List ℕ → ℕ
announced bytes = announced_by (read_root_count bytes)

-- what comes of a list whose roots are not all taken, by whether its bytes are well formed
abbrev pub refused_if : Bool → Outcome
refused_if true = outcome.Refused
refused_if false = outcome.Malformed

module _ (hash : List ℕ → List ℕ) (verified : List ℕ → List ℕ → List ℕ → Type 0) where
  -- The answer, and the chain after it: it takes each root of the list that the bytes spell in order, or stays
  -- as it was.
  abbrev pub TakesBytes : {A : Type 0} → KeyedRoots → List ℕ → Result A PieceRefusal → KeyedRoots → Type 0
  TakesBytes chain bytes (Ok _) after = (roots : List SignedRoot) × SpellsRoots bytes roots × Takes hash verified chain roots after
  TakesBytes chain bytes (Err why) after = (after ≡ chain)
      × ((((roots : List SignedRoot) → ¬ SpellsRoots bytes roots) × (why ≡ Malformed))
      ⊎ ((roots : List SignedRoot) × (reason : ListRefusal) × SpellsRoots bytes roots × IsListRefusal hash verified chain roots reason × (why ≡ of_piece reason)))

  -- what comes of so many roots, which are all of these bytes: each is taken, up to the first that is refused;
  -- or the bytes have no such roots
  abbrev pub TakesRead : KeyedRoots → ℕ → List ℕ → Outcome → ListRefusal → KeyedRoots → Type 0
  TakesRead chain count bytes outcome.Taken why after = (roots : List SignedRoot) × (read_roots count bytes ≡ Ok (roots, [])) × Takes hash verified chain roots after
  TakesRead chain count bytes outcome.Refused why after = (roots : List SignedRoot) × (read_roots count bytes ≡ Ok (roots, [])) × StopsAt hash verified chain roots why after
  TakesRead chain count bytes outcome.Malformed why after = (¬ HasRoots count bytes) × ((more : List SignedRoot) × (after ≡ with_roots chain more))
