use Rattle.std.proofs.Common.{arith, ◌∙◌, ap, length}
use Rattle.lanes.proofs.TwoBlocks.{length-padded, padded_is}
use Rattle.lanes.proofs.padding.padded.Goals as goal

pub returns-clause-value : goal.returns-clause-value
returns-clause-value c =
    padded_is c.args.message.now _ _ _ c.requires c.copy_from_slice.ensures.after
    (c.copy_from_slice-2.ensures.after ∙ c.to_be_bytes.ensures) (omega arith)

pub returns-clause-len : goal.returns-clause-len
returns-clause-len c =
    ap length (padded_is c.args.message.now _ _ _ c.requires c.copy_from_slice.ensures.after
    (c.copy_from_slice-2.ensures.after ∙ c.to_be_bytes.ensures) (omega arith)) ∙ length-padded c.args.message.now c.requires
