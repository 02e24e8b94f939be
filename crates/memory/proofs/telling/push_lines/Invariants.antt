use Rattle.std.proofs.Common.{◌≡◌, ◌++◌, drop, map}
use Rattle.std.specs.Io.{StartsWith}
use Rattle.memory.specs.Texts.{items_text}
use Rattle.memory.specs.declared.item.Item.TheVariants.{Evidence}
use Rattle.memory.proofs.telling.push_lines.Given as goal

-- the lines so far, and those that are left, are all the lines
abbrev pub invariant-loop-line : goal.invariant-loop-line
invariant-loop-line l = (l.text.items ++ items_text (map Evidence (drop l.line-index l.evidence)) ≡ l.initial.text.items ++ items_text (map Evidence l.evidence))
    × StartsWith l.text.items l.initial.text.items
