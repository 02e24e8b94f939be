use Rattle.wire.specs.Responses.{PromiseKind}
use Rattle.wire.proofs.Responses.{no_response}
use Rattle.wire.proofs.response.read_promise.Goals as goal

pub returns-in-Err : goal.returns-in-Err
returns-in-Err c = no_response PromiseKind c.args.body.now c.in-Err.ensures.exact
