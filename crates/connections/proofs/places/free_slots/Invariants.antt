use Rattle.std.specs.Prelude.{◌≡◌, ℕ, None, get_or, length}
use Rattle.connections.proofs.places.free_slots.Given as goal

-- the places so far are free
abbrev pub invariant-loop-place : goal.invariant-loop-place
invariant-loop-place l = ((place : ℕ) → get_or l.slots.items place None ≡ None) × (length l.slots.items ≡ l._place)
