use Rattle.std.proofs.Common.{◌≡◌, ◌++◌, drop, map}
use Rattle.std.specs.Io.{StartsWith}
use Rattle.memory.specs.Texts.{items_text}
use Rattle.memory.specs.declared.item.Item.TheVariants.{Watched}
use Rattle.memory.proofs.telling.push_marks.Given as goal

-- the lines so far, and those that are left, are all the lines
abbrev pub invariant-loop-mark : goal.invariant-loop-mark
invariant-loop-mark l = (l.text.items ++ items_text (map Watched (drop l.mark-index l.marks)) ≡ l.initial.text.items ++ items_text (map Watched l.marks))
    × StartsWith l.text.items l.initial.text.items
