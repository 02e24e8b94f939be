use Rattle.std.proofs.Common.{◌≡◌, take}
use Rattle.memory.proofs.copying.copied_lines.Given as goal

-- the copies so far
abbrev pub invariant-loop-line : goal.invariant-loop-line
invariant-loop-line l = l.copies.items ≡ take l.line-index l.evidence
