use Rattle.std.proofs.Common.{◌≡◌, ℕ, ◌<◌, ◌*◌}
use Rattle.sha2.specs.Sha256.{rounds}
use Rattle.lanes.specs.Lanes.{lane}
use Rattle.lanes.specs.TwoBlocks.{padding_words}
use Rattle.lanes.proofs.padding_block.compress_padding.Given as goal

abbrev pub invariant-rounds : goal.invariant-rounds
invariant-rounds g l = (k : ℕ) → k < g.row.N
    → lane l.v k ≡ rounds (lane l.hash k) padding_words (16 * l.turn)
