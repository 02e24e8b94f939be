use Rattle.std.proofs.Common.{drop}
use Rattle.asking.specs.Joining.{IsLeftToWatch}
use Rattle.asking.specs.declared.joining.ToWatch.{ToWatch}
use Rattle.asking.proofs.joining.left_to_watch.Given as goal

-- what is left for the marks from this one on is left for all of them
abbrev pub invariant-loop-mark : goal.invariant-loop-mark
invariant-loop-mark g l = (left : ToWatch) → IsLeftToWatch l.client.chain l.name (drop l.mark-index l.marks) left → IsLeftToWatch l.client.chain l.name l.marks left
