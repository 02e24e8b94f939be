use Rattle.std.proofs.Common.{◌<◌, ◌≢◌, ℕ, get_or}
use Rattle.memory.specs.declared.mark.Mark.{Mark}
use Rattle.asking.proofs.promises.is_marked.Given as goal

-- none so far has the name
abbrev pub invariant-loop-mark : goal.invariant-loop-mark
invariant-loop-mark l = (k : ℕ) → k < l.mark-index → (d : Mark) → (get_or l.marks k d).name ≢ l.name
