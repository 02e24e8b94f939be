use Rattle.std.proofs.Common.{◌≡◌, ◌++◌, ℕ, List, length}
use Rattle.std.specs.Io.{StartsWith}
use Rattle.textio.specs.Lines.{lines_of}
use Rattle.memory.specs.Learning.{LearnsLine}
use Rattle.memory.proofs.Learned.{EachSoFar}
use Rattle.memory.proofs.memory.Memory.learn_told.Given as goal

-- the lines so far are learned
abbrev pub invariant-loop-rest : goal.invariant-loop-rest
invariant-loop-rest l = ((done : List (List ℕ)) × (lines_of l.told ≡ done ++ lines_of l.rest) × EachSoFar (LearnsLine l.kind) done l.initial.self l.self l.initial.lines.items l.lines.items)
    × StartsWith l.lines.items l.initial.lines.items

abbrev pub decreases-loop-rest : goal.decreases-loop-rest
decreases-loop-rest l = length l.rest
