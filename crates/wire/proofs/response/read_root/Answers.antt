use Rattle.wire.specs.Responses.{RootKind}
use Rattle.wire.proofs.Responses.{no_response}
use Rattle.wire.proofs.response.read_root.Goals as goal

pub returns-in-Err : goal.returns-in-Err
returns-in-Err c = no_response RootKind c.args.body.now c.in-Err.ensures.exact
