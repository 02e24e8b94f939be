use Rattle.std.proofs.Common.{◌≡◌, ◌++◌, drop, map}
use Rattle.std.specs.Io.{StartsWith}
use Rattle.memory.specs.Texts.{items_text}
use Rattle.memory.specs.declared.item.Item.TheVariants.{Final}
use Rattle.memory.proofs.telling.push_finals.Given as goal

-- the lines so far, and those that are left, are all the lines
abbrev pub invariant-loop-seen : goal.invariant-loop-seen
invariant-loop-seen l = (l.text.items ++ items_text (map Final (drop l.seen-index l.finals)) ≡ l.initial.text.items ++ items_text (map Final l.finals))
    × StartsWith l.text.items l.initial.text.items
