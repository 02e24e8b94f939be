use Rattle.wire.proofs.Requests.{one_request}
use Rattle.wire.proofs.laws.body_spells_one_request.Goals as goal

pub returns : goal.returns
returns c = one_request
