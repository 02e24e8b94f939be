use Rattle.std.proofs.Common.{◌≡◌, ℕ, ◌<◌, [], length, map, slice_index_or}
use Rattle.lanes.proofs.padding.are_blocks.Given as goal

abbrev pub invariant-loop-message : goal.invariant-loop-message
invariant-loop-message l = (k : ℕ) → k < l.message-index → length (slice_index_or (map (λ message. message.now) l.messages) k []) ≡ 64
