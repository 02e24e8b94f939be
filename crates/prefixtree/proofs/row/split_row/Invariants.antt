use Rattle.std.proofs.Common.{ℕ, List, ◌++◌, drop}
use Rattle.prefixtree.specs.declared.row.Place.{Place}
use Rattle.prefixtree.specs.Rows.{ArePlaces, AreSplit, Outcomes}
use Rattle.prefixtree.proofs.row.split_row.Given as goal

-- what is left is a row of places, and whatever it gives completes the row
abbrev pub invariant-loop-place : goal.invariant-loop-place
invariant-loop-place l = record {
  left : (of : List ℕ → List ℕ) × (nonce : List ℕ) × ArePlaces of nonce l.changes l.level (drop l.place-index l.places);
  ends : (of : List ℕ → List ℕ) (nonce : List ℕ) → ArePlaces of nonce l.changes l.level l.places
      → ArePlaces of nonce l.changes l.level (drop l.place-index l.places)
      × ((outcomes : Outcomes) (rest : List Place) → AreSplit of nonce l.changes l.level (drop l.place-index l.places) outcomes rest
      → AreSplit of nonce l.changes l.level l.places (l.outcomes.items ++ outcomes) (l.lower.items ++ rest));
}
