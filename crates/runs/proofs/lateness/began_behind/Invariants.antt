use Rattle.std.proofs.Common.{ℕ, [], drop}
use Rattle.runs.specs.Lateness.{BeganBehind}
use Rattle.runs.proofs.lateness.began_behind.Given as goal

-- what the marks from this one on say, all of them say
abbrev pub invariant-loop-mark : goal.invariant-loop-mark
invariant-loop-mark g l = (epoch : ℕ) → BeganBehind (drop l.mark-index l.marks) l.monitors l.name epoch → BeganBehind l.marks l.monitors l.name epoch

-- and so the monitors from this one on
abbrev pub invariant-loop-monitor : goal.invariant-loop-monitor
invariant-loop-monitor g l = (epoch : ℕ) → BeganBehind [] (drop l.monitor-index l.monitors) l.name epoch → BeganBehind l.marks l.monitors l.name epoch
