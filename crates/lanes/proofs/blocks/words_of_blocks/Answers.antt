use Rattle.std.proofs.Common.{◌*◌, ◌^◌, ◌<◌, ◌∙◌, [], map, slice_index_or, arith}
use Rattle.std.proofs.lemmas.List.{length-set}
use Rattle.lanes.proofs.Windows.{lane_next, length-lane}
use Rattle.lanes.proofs.blocks.words_of_blocks.Goals as goal

pub load-init : goal.load-init
load-init g c = (c.told-room, λ k below j low. absurd (omega arith))

pub load-requires : goal.load-requires
load-requires g c =
    let few : g.row.N * 4 < 2 ^ 63 = omega (arith, c.requires.few) in
    (few, (c.requires.few, (c.requires.count, λ k below. omega (arith, c.requires.whole k below, c.load-test.true))))

pub load-preserved : goal.load-preserved
load-preserved g c = (
  length-set c.load.w c.load.i c.load-in-load.result ∙ c.load.invariant.0,
  λ k below. lane_next c.load.w (slice_index_or (map (λ block. block.now) c.args.blocks.now) k []) k c.load.i c.load-in-load.result
      (omega (arith, c.load.invariant.0, c.load-test.true)) (c.load.invariant.1 k below) (c.load-in-load.ensures k below),
)

pub returns : goal.returns
returns g c k below = (
  length-lane c.load.w k ∙ c.load.invariant.0,
  λ i low. c.load.invariant.1 k below i (omega arith),
)
