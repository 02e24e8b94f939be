use Rattle.wire.proofs.Responses.{no_proof}
use Rattle.wire.proofs.response.read_proof.Goals as goal

pub returns-in-Err : goal.returns-in-Err
returns-in-Err c = no_proof c.args.body.now _ c.in-Err.ensures.exact
