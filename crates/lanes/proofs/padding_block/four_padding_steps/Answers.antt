use Rattle.std.proofs.Common.{ap, ◌∙◌, arith}
use Rattle.sha2.specs.Sha256.{rounds}
use Rattle.lanes.specs.TwoBlocks.{padding_words}
use Rattle.lanes.proofs.padding_block.four_padding_steps.Goals as goal

pub returns : goal.returns
returns g c k h below held =
    let after = rounds h padding_words in
    let one = c.padding_step-v.ensures k h below held in
    let two = c.padding_step-v-2.ensures k h below one in
    let three = c.padding_step-v-3.ensures k h below (two ∙ ap after (omega arith)) in
    c.padding_step.ensures k h below (three ∙ ap after (omega arith)) ∙ ap after (omega arith)
