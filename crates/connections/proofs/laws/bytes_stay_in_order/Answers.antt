use Rattle.connections.proofs.Orderly.{in_order}
use Rattle.connections.proofs.laws.bytes_stay_in_order.Goals as goal

pub returns : goal.returns
returns c = in_order
