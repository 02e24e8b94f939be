use Rattle.std.proofs.Common.{◌≡◌, take}
use Rattle.memory.proofs.copying.copied_alarms.Given as goal

-- the copies so far
abbrev pub invariant-loop-alarm : goal.invariant-loop-alarm
invariant-loop-alarm l = l.copies.items ≡ take l.alarm-index l.alarms
