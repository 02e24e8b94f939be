use Rattle.std.proofs.Common.{take}
use Rattle.memory.specs.Watching.{WatchedUpTo}
use Rattle.memory.proofs.watching.watched_up_to.Given as goal

-- the least of the monitors so far
abbrev pub invariant-loop-monitor : goal.invariant-loop-monitor
invariant-loop-monitor g l = WatchedUpTo (take l.monitor-index l.monitors) l.name l.least
