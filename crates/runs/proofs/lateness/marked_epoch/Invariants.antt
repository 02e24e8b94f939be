use Rattle.std.proofs.Common.{drop, ℕ}
use Rattle.runs.specs.Lateness.{IsMarkedTo}
use Rattle.runs.proofs.lateness.marked_epoch.Given as goal

-- what the marks from this one on say, all of them say
abbrev pub invariant-loop-mark : goal.invariant-loop-mark
invariant-loop-mark l = (epoch : ℕ) → IsMarkedTo l.name epoch (drop l.mark-index l.marks) → IsMarkedTo l.name epoch l.marks
