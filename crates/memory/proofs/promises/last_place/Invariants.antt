use Rattle.std.proofs.Common.{◌<◌, ◌≤◌, ◌≢◌, ℕ, get_or, length}
use Rattle.memory.specs.declared.promised.Promised.{Promised}
use Rattle.memory.proofs.promises.last_place.Given as goal

-- none from the place on is the promise
abbrev pub invariant-loop-place : goal.invariant-loop-place
invariant-loop-place l = (l.place ≤ length l.promises) × ((k : ℕ) → l.place ≤ k → k < length l.promises → (d : Promised) → (get_or l.promises k d).signed ≢ l.signed)

abbrev pub decreases-loop-place : goal.decreases-loop-place
decreases-loop-place l = l.place
