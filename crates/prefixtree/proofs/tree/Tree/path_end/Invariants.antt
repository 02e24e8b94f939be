use Rattle.std.proofs.Common.{◌≡◌, ◌-◌}
use Rattle.prefixtree.proofs.tree.Tree.path_end.Given as goal

-- it is the walk of the index
abbrev pub invariant-loop : goal.invariant-loop
invariant-loop g l = l.walk ≡ record { tree = l.self; index = l.index; level = l.walk.level }

-- the levels that are left
abbrev pub decreases-loop : goal.decreases-loop
decreases-loop g l = 256 - l.walk.level
