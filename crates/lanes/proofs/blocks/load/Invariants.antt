use Rattle.std.proofs.Common.{[], map, slice_index_or}
use Rattle.sha2.specs.Sha256.{word_at}
use Rattle.lanes.proofs.Places.{IsWritten}
use Rattle.lanes.proofs.blocks.load.Given as goal

abbrev pub invariant-lanes : goal.invariant-lanes
invariant-lanes g l = IsWritten (λ k. word_at (slice_index_or (map (λ block. block.now) l.blocks) k []) l.i) 0 g.row.N l.k l.words
