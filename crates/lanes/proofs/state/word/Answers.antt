use Rattle.std.proofs.Common.{sym}
use Rattle.lanes.proofs.Windows.{lane_at}
use Rattle.lanes.proofs.state.word.Goals as goal

pub returns : goal.returns
returns g c = sym (lane_at c.args.state.now c.args.k c.args.i)
