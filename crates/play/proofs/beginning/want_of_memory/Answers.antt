use Rattle.play.proofs.Refused.{begins-well}
use Rattle.play.proofs.beginning.want_of_memory.Goals as goal

pub unreachable-requires : goal.unreachable-requires
unreachable-requires c = c.in_default.not-Memory (begins-well c.args.why c.requires)
