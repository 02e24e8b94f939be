use Rattle.std.proofs.Common.{ℕ, ◌<◌, [], map, slice_index_or}
use Rattle.lanes.specs.TwoBlocks.{HasTwoBlocks}
use Rattle.nodehash.proofs.sha256_hash.have_two_blocks.Given as goal

abbrev pub invariant-loop-text : goal.invariant-loop-text
invariant-loop-text l = (k : ℕ) → k < l.text-index → HasTwoBlocks (slice_index_or (map (λ text. text.now) l.texts) k [])
