use Rattle.wire.proofs.Responses.{no_code}
use Rattle.wire.proofs.response.read_code.Goals as goal

pub returns-in-None : goal.returns-in-None
returns-in-None c = no_code c.args.body.now c.in-None.ensures
