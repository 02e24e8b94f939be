use Rattle.std.proofs.Common.{◌+◌, ◌≤◌, length}
use Rattle.rootchain.specs.Walks.{IsCleared}
use Rattle.rootchain.proofs.chain.comparing.last_places.Given as goal

abbrev pub invariant-loop-i : goal.invariant-loop-i
invariant-loop-i l = record { one : l.i ≤ length l.ones; other : l.j ≤ length l.others; clear : IsCleared l.ones l.others l.i l.j }

abbrev pub decreases-loop-i : goal.decreases-loop-i
decreases-loop-i l = l.i + l.j
