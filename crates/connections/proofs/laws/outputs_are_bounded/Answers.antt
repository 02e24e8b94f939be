use Rattle.connections.proofs.Waiting.{always_wait_within}
use Rattle.connections.proofs.laws.outputs_are_bounded.Goals as goal

pub returns : goal.returns
returns c = always_wait_within
