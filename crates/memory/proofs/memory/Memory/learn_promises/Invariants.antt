use Rattle.std.proofs.Common.{map, take}
use Rattle.std.specs.Io.{StartsWith}
use Rattle.memory.specs.Learning.{promised_item, LearnsOne}
use Rattle.memory.proofs.Learned.{EachSoFar}
use Rattle.memory.proofs.memory.Memory.learn_promises.Given as goal

-- the promises so far are learned
abbrev pub invariant-loop-signed : goal.invariant-loop-signed
invariant-loop-signed l = EachSoFar LearnsOne (map (promised_item l.is_own) (take l.signed-index l.promises)) l.initial.self l.self l.initial.lines.items l.lines.items
    × StartsWith l.lines.items l.initial.lines.items
