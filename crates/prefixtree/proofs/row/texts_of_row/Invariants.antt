use Rattle.std.proofs.Common.{◌≡◌, ◌+◌, ◌++◌, length, map, drop}
use Rattle.prefixtree.specs.Built.{kept}
use Rattle.prefixtree.specs.Rows.{row_sides, row_texts}
use Rattle.prefixtree.proofs.row.texts_of_row.Given as goal

abbrev pub invariant-loop-place : goal.invariant-loop-place
invariant-loop-place l = record {
  left : l.below + row_sides (drop (length l.yielded) l.outcomes) ≡ length l.lower;
  grown : l.texts.items ++ row_texts l.nonce l.level (drop (length l.yielded) l.places) (drop (length l.yielded) l.outcomes) (drop l.below (map kept l.lower))
      ≡ row_texts l.nonce l.level l.places l.outcomes (map kept l.lower);
}
