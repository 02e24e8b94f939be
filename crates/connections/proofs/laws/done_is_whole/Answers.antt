use Rattle.connections.proofs.Orderly.{done_whole}
use Rattle.connections.proofs.laws.done_is_whole.Goals as goal

pub returns : goal.returns
returns c = done_whole
