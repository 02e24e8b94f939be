use Rattle.std.proofs.Common.{Err, Ok, ap, refl}
use Rattle.wire.specs.Requests.{request_seen}
use Rattle.hub.specs.Exchanges.{refused_frame}
use Rattle.hub.proofs.desk.DeskService.answer.Goals as goal

pub returns-in-Ok : goal.returns-in-Ok
returns-in-Ok g c = (c.serve.ensures.0, (Ok (request_seen c.in-Ok.request), c.in-Ok.ensures, c.serve.ensures.1), c.serve.ensures.2)

pub returns-in-Err : goal.returns-in-Err
returns-in-Err g c =
    (refused_frame c.number.result, (Err c.in-Err.refusal, c.in-Err.ensures, (ap refused_frame c.number.ensures, refl)), c.write_refused.ensures)
