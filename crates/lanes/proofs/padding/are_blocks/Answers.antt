use Rattle.std.proofs.Common.{◌≡◌, ◌∙◌, ap, length, inl, inr, arith}
use Rattle.std.proofs.Math.ListN.{get_or-map}
use Rattle.std.proofs.lemmas.Bool.{cases_lt}
use Rattle.lanes.proofs.padding.are_blocks.Goals as goal

pub loop-message-preserved : goal.loop-message-preserved
loop-message-preserved c k below = elim (cases_lt k c.loop-message.message-index) [
  | inl a ↦ c.loop-message.invariant k a
  | inr b ↦
      let same : c.loop-message.message-index ≡ k = omega arith in
      rw (← same) (ap length (get_or-map (λ message. message.now) c.args.messages.now c.loop-message.message-index _) ∙ c.if-message-ne-BLOCK_LEN.false)
]
