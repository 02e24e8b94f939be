use Rattle.std.proofs.Common.{◌∙◌, [], take, drop, slice_index_or, arith}
use Rattle.std.proofs.lemmas.List.{length-set}
use Rattle.lanes.proofs.Windows.{lane_next, length-lane}
use Rattle.lanes.proofs.blocks.words_of_padded.Goals as goal

pub load-init : goal.load-init
load-init g c = (c.told-room, λ k below j low. absurd (omega arith))

pub load-preserved : goal.load-preserved
load-preserved g c = (
  length-set c.load.w c.load.i c.load_padded.result ∙ c.load.invariant.0,
  λ k below. lane_next c.load.w (take 64 (drop c.args.start (slice_index_or c.args.texts.now k []))) k c.load.i c.load_padded.result
      (omega (arith, c.load.invariant.0, c.load-test.true)) (c.load.invariant.1 k below) (c.load_padded.ensures k below),
)

pub returns : goal.returns
returns g c k below = (
  length-lane c.load.w k ∙ c.load.invariant.0,
  λ i low. c.load.invariant.1 k below i (omega arith),
)
