use Rattle.std.proofs.Common.{◌≡◌, ◌+◌, ◌++◌, List, length, drop}
use Rattle.std.specs.Vec.Iter.{into_iter_items, into_iter_len}
use Rattle.prefixtree.specs.declared.node.Node.{Node}
use Rattle.prefixtree.specs.Rows.{row_digests, row_sides, AreMade}
use Rattle.prefixtree.proofs.row.join_row.Given as goal

-- whatever nodes are made at what is left complete the row
abbrev pub invariant-loop-outcome : goal.invariant-loop-outcome
invariant-loop-outcome l = record {
  counted : length (into_iter_items l.outcome-iterator) ≡ into_iter_len l.outcome-iterator;
  digests : l.used + row_digests (into_iter_items l.outcome-iterator) ≡ length l.digests;
  lower : length (into_iter_items l.below) ≡ row_sides (into_iter_items l.outcome-iterator);
  ends : (nodes : List Node) → AreMade (into_iter_items l.outcome-iterator) (drop l.used l.digests) (into_iter_items l.below) nodes
      → AreMade l.fn.outcomes.items l.digests l.fn.lower.items (l.nodes.items ++ nodes);
}
