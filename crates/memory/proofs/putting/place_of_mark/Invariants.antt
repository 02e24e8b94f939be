use Rattle.std.proofs.Common.{◌<◌, ◌≢◌, ℕ, get_or}
use Rattle.memory.specs.declared.mark.Mark.{Mark}
use Rattle.memory.proofs.putting.place_of_mark.Given as goal

-- none so far has the name
abbrev pub invariant-loop-place : goal.invariant-loop-place
invariant-loop-place l = (k : ℕ) → k < l.place → (d : Mark) → (get_or l.marks k d).name ≢ l.name
