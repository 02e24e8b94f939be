use Rattle.std.proofs.Common.{◌≡◌, ◌++◌, drop}
use Rattle.prefixtree.proofs.path.Path.root.Given as goal

-- what was copied, and what is left, are all siblings
abbrev pub invariant-loop-sibling : goal.invariant-loop-sibling
invariant-loop-sibling g l = l.siblings.items ++ drop l.sibling-index l.self.siblings.items ≡ l.self.siblings.items
