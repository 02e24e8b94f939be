use Rattle.std.proofs.Common.{◌≡◌, ◌∙◌, []}
use Rattle.std.specs.Vec.Iter.{into_iter_items}
use Rattle.prefixtree.proofs.RowsMade.{made-end, none}
use Rattle.prefixtree.proofs.row.join_row.Goals as goal

pub returns : goal.returns
returns c =
    let end : into_iter_items c.loop-outcome.outcome-iterator ≡ [] = none _ (c.loop-outcome.invariant.counted ∙ (rw c.in-None.is at c.next.ensures.steps).0) in
    made-end c.args.digests.now c.loop-outcome.used (into_iter_items c.loop-outcome.outcome-iterator) c.args.outcomes.items (into_iter_items c.loop-outcome.below) c.args.lower.items c.loop-outcome.nodes.items
    end c.loop-outcome.invariant.digests c.loop-outcome.invariant.lower c.loop-outcome.invariant.ends
