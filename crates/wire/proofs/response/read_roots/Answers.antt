use Rattle.wire.specs.Responses.{RootsKind}
use Rattle.wire.proofs.Responses.{no_response}
use Rattle.wire.proofs.response.read_roots.Goals as goal

pub returns-in-Err : goal.returns-in-Err
returns-in-Err c = no_response RootsKind c.args.body.now c.in-Err.ensures.exact
