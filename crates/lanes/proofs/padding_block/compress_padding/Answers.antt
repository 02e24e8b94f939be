use Rattle.std.proofs.Common.{◌≡◌, refl, ap, ◌*◌, ◌∙◌, arith}
use Rattle.lanes.specs.Lanes.{lane}
use Rattle.sha2.specs.Sha256.{add_state, compress, rounds}
use Rattle.lanes.specs.TwoBlocks.{padding_words}
use Rattle.lanes.proofs.padding_block.compress_padding.Goals as goal

pub rounds-init : goal.rounds-init
unfolding rounds
rounds-init g c k below = refl

pub rounds-preserved : goal.rounds-preserved
rounds-preserved g c k below =
    let h = lane c.args.hash k in
    let after = rounds h padding_words in
    let one = c.four_padding_steps-v.ensures k h below (c.rounds.invariant k below) in
    let two = c.four_padding_steps-v-in-rounds.ensures k h below one in
    let three = c.four_padding_steps-v-in-rounds-2.ensures k h below (two ∙ ap after (omega arith)) in
    c.four_padding_steps-v-in-rounds-3.ensures k h below (three ∙ ap after (omega arith)) ∙ ap after (omega arith)

pub returns : goal.returns
unfolding compress
returns g c k below =
    let done : 16 * c.rounds.turn ≡ 64 = omega (arith, c.rounds.auto.turn-end) in
    c.summed.ensures k below ∙ ap (add_state (lane c.args.hash k)) (rw done at (c.rounds.invariant k below))
