use Rattle.std.proofs.Common.{◌≡◌, ◌++◌, drop, map}
use Rattle.std.specs.Io.{StartsWith}
use Rattle.memory.specs.Texts.{items_text}
use Rattle.memory.specs.declared.item.Item.TheVariants.{Alarm}
use Rattle.memory.proofs.telling.push_alarms.Given as goal

-- the lines so far, and those that are left, are all the lines
abbrev pub invariant-loop-alarm : goal.invariant-loop-alarm
invariant-loop-alarm l = (l.text.items ++ items_text (map Alarm (drop l.alarm-index l.alarms)) ≡ l.initial.text.items ++ items_text (map Alarm l.alarms))
    × StartsWith l.text.items l.initial.text.items
