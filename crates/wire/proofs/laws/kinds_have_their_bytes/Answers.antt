use Rattle.std.proofs.Common.{refl}
use Rattle.wire.proofs.Requests as requests
use Rattle.wire.proofs.Responses as responses
use Rattle.wire.proofs.laws.kinds_have_their_bytes.Goals as goal

pub returns : goal.returns
returns c = record { requests = requests.have_kinds; read = refl; responses = responses.have_kinds }
