use Rattle.std.proofs.Common.{◌<◌, ◌≤◌, ◌≢◌, ℕ, get_or, length}
use Rattle.monitor.specs.Monitors.{Monitor}
use Rattle.asking.proofs.promises.is_watched.Given as goal

-- none from the place on has the name
abbrev pub invariant-loop-place : goal.invariant-loop-place
invariant-loop-place g l = (l.place ≤ length l.monitors) × ((k : ℕ) → l.place ≤ k → k < length l.monitors → (d : Monitor) → (get_or l.monitors k d).name ≢ l.name)

abbrev pub decreases-loop-place : goal.decreases-loop-place
decreases-loop-place g l = l.place
