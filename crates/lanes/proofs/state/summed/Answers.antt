use Rattle.std.proofs.Common.{◌∙◌, ap, refl}
use Rattle.lanes.specs.Lanes.{lane}
use Rattle.lanes.proofs.Windows.{lane_at}
use Rattle.lanes.proofs.state.summed.Goals as goal

pub returns : goal.returns
returns g c k below = ap (λ v. lane v k) c.filled.ensures ∙ rw (
  c.add.ensures k below,
  c.add-2.ensures k below,
  c.add-3.ensures k below,
  c.add-4.ensures k below,
  c.add-5.ensures k below,
  c.add-6.ensures k below,
  c.add-7.ensures k below,
  c.add-8.ensures k below,
  lane_at c.args.hash k 0,
  lane_at c.args.hash k 1,
  lane_at c.args.hash k 2,
  lane_at c.args.hash k 3,
  lane_at c.args.hash k 4,
  lane_at c.args.hash k 5,
  lane_at c.args.hash k 6,
  lane_at c.args.hash k 7,
  lane_at c.args.v k 0,
  lane_at c.args.v k 1,
  lane_at c.args.v k 2,
  lane_at c.args.v k 3,
  lane_at c.args.v k 4,
  lane_at c.args.v k 5,
  lane_at c.args.v k 6,
  lane_at c.args.v k 7,
) refl
