use Rattle.std.specs.Prelude.{◌≡◌, ◌<◌, ℕ, None, get_or}
use Rattle.connections.proofs.places.are_free.Given as goal

-- the places so far are free
abbrev pub invariant-loop-slot : goal.invariant-loop-slot
invariant-loop-slot l = (place : ℕ) → place < l.slot-index → get_or l.places place None ≡ None
