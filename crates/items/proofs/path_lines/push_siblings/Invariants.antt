use Rattle.std.proofs.Common.{◌≡◌, ◌++◌, drop}
use Rattle.items.specs.Prove.{sibling_lines}
use Rattle.items.proofs.path_lines.push_siblings.Given as goal

-- the lines so far, and those of the siblings that are left, are all the lines
abbrev pub invariant-loop-sibling : goal.invariant-loop-sibling
invariant-loop-sibling l = l.lines.items ++ sibling_lines (drop l.sibling-index l.siblings) ≡ l.fn.lines.items ++ sibling_lines l.siblings
