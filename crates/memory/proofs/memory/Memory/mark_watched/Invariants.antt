use Rattle.std.proofs.Common.{take}
use Rattle.std.specs.Io.{StartsWith}
use Rattle.memory.specs.Learning.{MarksOne}
use Rattle.memory.proofs.Learned.{EachSoFar}
use Rattle.memory.proofs.Taken.{TakenSoFar}
use Rattle.memory.proofs.memory.Memory.mark_watched.Given as goal

-- the marks so far have moved
abbrev pub invariant-loop-monitor : goal.invariant-loop-monitor
invariant-loop-monitor g l = EachSoFar (MarksOne l.monitors) (take l.monitor-index l.some) l.initial.self l.self l.initial.lines.items l.lines.items
    × StartsWith l.lines.items l.initial.lines.items × TakenSoFar l.initial.self l.self l.initial.lines.items l.lines.items
