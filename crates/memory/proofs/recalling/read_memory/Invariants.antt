use Rattle.std.proofs.Common.{◌+◌, ◌≤◌, Result, length}
use Rattle.textio.specs.Lines.{lines_of}
use Rattle.memory.specs.Memories.{Memory}
use Rattle.memory.specs.Texts.{Recalls, Spells}
use Rattle.memory.specs.declared.read_fault.ReadFault.{ReadFault}
use Rattle.memory.proofs.recalling.read_memory.Given as goal

-- what comes of the lines that are left, comes of the text
abbrev pub invariant-loop-rest : goal.invariant-loop-rest
invariant-loop-rest l = ((result : Result Memory ReadFault) → Recalls (l.number + 1) (lines_of l.rest) l.memory result → Spells l.fn.text result)
    × (l.number + length l.rest ≤ length l.fn.text)

abbrev pub decreases-loop-rest : goal.decreases-loop-rest
decreases-loop-rest l = length l.rest
