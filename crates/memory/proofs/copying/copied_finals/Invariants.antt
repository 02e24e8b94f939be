use Rattle.std.proofs.Common.{◌≡◌, take}
use Rattle.memory.proofs.copying.copied_finals.Given as goal

-- the copies so far
abbrev pub invariant-loop-seen : goal.invariant-loop-seen
invariant-loop-seen l = l.copies.items ≡ take l.seen-index l.finals
