use Rattle.prefixtree.proofs.Places.{placement_none}
use Rattle.measure.proofs.changes.Placed.new.Goals as goal

-- src/changes.rt:32:9
pub invariant_of-result-2 : goal.invariant_of-result-2
invariant_of-result-2 c = rw c.new.ensures.items placement_none
