use Rattle.std.proofs.Common.{take}
use Rattle.prefixtree.specs.Placement.{HasDistinctIndices}
use Rattle.items.proofs.Repeats.{HasSeen}
use Rattle.items.proofs.listing.first_repeat.Given as goal

abbrev pub invariant-loop-place : goal.invariant-loop-place
invariant-loop-place l = record {
  seen : HasSeen l.seen.keys (take l.place l.items);
  distinct : HasDistinctIndices (take l.place l.items);
}
