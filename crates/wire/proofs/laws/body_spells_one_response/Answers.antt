use Rattle.wire.proofs.Responses.{one_response}
use Rattle.wire.proofs.laws.body_spells_one_response.Goals as goal

pub returns : goal.returns
returns c = one_response
