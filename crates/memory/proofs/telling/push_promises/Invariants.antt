use Rattle.std.proofs.Common.{◌≡◌, ◌++◌, drop, map}
use Rattle.std.specs.Io.{StartsWith}
use Rattle.memory.specs.Texts.{items_text}
use Rattle.memory.specs.declared.item.Item.TheVariants.{Promised}
use Rattle.memory.proofs.telling.push_promises.Given as goal

-- the lines so far, and those that are left, are all the lines
abbrev pub invariant-loop-promised : goal.invariant-loop-promised
invariant-loop-promised l = (l.text.items ++ items_text (map Promised (drop l.promised-index l.promises)) ≡ l.initial.text.items ++ items_text (map Promised l.promises))
    × StartsWith l.text.items l.initial.text.items
