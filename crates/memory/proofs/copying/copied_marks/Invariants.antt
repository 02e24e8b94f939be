use Rattle.std.proofs.Common.{◌≡◌, take}
use Rattle.memory.proofs.copying.copied_marks.Given as goal

-- the copies so far
abbrev pub invariant-loop-mark : goal.invariant-loop-mark
invariant-loop-mark l = l.copies.items ≡ take l.mark-index l.marks
