use Rattle.rootchain.specs.Walks.{IsRun}
use Rattle.rootchain.proofs.chain.comparing.apart_below.Given as goal

abbrev pub invariant-loop-low : goal.invariant-loop-low
invariant-loop-low l = IsRun l.ones l.others l.low l.other_low l.to l.other_to

abbrev pub decreases-loop-low : goal.decreases-loop-low
decreases-loop-low l = l.low
