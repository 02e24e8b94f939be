use Rattle.std.proofs.Common.{◌<◌, ℕ, get_or}
use Rattle.memory.specs.Watching.{IsAwaited}
use Rattle.memory.specs.declared.mark.Mark.{Mark}
use Rattle.memory.proofs.leaving.has_awaiting.Given as goal

-- none so far awaits the promise
abbrev pub invariant-loop-mark : goal.invariant-loop-mark
invariant-loop-mark l = (k : ℕ) → k < l.mark-index → (d : Mark) → ¬ IsAwaited l.signed (get_or l.marks k d)
