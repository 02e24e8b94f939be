use Rattle.std.proofs.Common.{◌≡◌, ℕ, ◌*◌, ◌<◌, [], length, take, drop, slice_index, slice_index_or}
use Rattle.sha2.specs.Sha256.{word_at}
use Rattle.lanes.specs.Lanes.{lane}
use Rattle.lanes.proofs.blocks.words_of_padded.Given as goal

abbrev pub invariant-load : goal.invariant-load
invariant-load g l = (length l.w ≡ 16) × ((k : ℕ) → k < g.row.N → (j : ℕ) → j < l.i
    → slice_index (lane l.w k) j ≡ word_at (take 64 (drop l.start (slice_index_or l.texts k []))) (4 * j))
