use Rattle.std.proofs.Common.{[], take, drop, slice_index_or}
use Rattle.sha2.specs.Sha256.{word_at}
use Rattle.lanes.proofs.Places.{IsWritten}
use Rattle.lanes.proofs.blocks.load_padded.Given as goal

abbrev pub invariant-lanes : goal.invariant-lanes
invariant-lanes g l = IsWritten (λ k. word_at (take 64 (drop l.start (slice_index_or l.texts k []))) l.i) 0 g.row.N l.k l.words
