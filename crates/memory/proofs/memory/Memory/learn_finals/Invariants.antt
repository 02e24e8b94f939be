use Rattle.std.proofs.Common.{take}
use Rattle.std.specs.Io.{StartsWith}
use Rattle.memory.specs.Learning.{LearnsFinal}
use Rattle.memory.proofs.Learned.{EachSoFar}
use Rattle.memory.proofs.Taken.{TakenSoFar}
use Rattle.memory.proofs.memory.Memory.learn_finals.Given as goal

-- the replies so far are learned
abbrev pub invariant-loop-seen : goal.invariant-loop-seen
invariant-loop-seen l = EachSoFar LearnsFinal (take l.seen-index l.finals) l.initial.self l.self l.initial.lines.items l.lines.items
    × StartsWith l.lines.items l.initial.lines.items × TakenSoFar l.initial.self l.self l.initial.lines.items l.lines.items
