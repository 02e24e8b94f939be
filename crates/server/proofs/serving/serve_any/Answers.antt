use Rattle.std.proofs.Common.{rules, IsErr, IsOk}
use Rattle.server.proofs.Conversing.{nothing_served}
use Rattle.server.proofs.Ending.{begins_empty, ended_whole, unopened}
use Rattle.server.proofs.serving.serve_any.Goals as goal

pub returns-then-is_err-clause-serves : goal.returns-then-is_err-clause-serves
returns-then-is_err-clause-serves g c =
    let bad : IsErr c.event.result = search rules in
    nothing_served g.S.Service.answers c.args.session c.args.hub.now c.event.new.self _ _ (unopened g.S.Service.answers c.args.hub.now c.args.session _ _ c.event.result c.event.new.self c.event.ensures.happens c.requires bad)

pub converse-outcome-requires : goal.converse-outcome-requires
converse-outcome-requires g c =
    let good : IsOk c.event.result = search rules in
    begins_empty g.S.Service.answers c.args.hub.now c.args.session _ _ c.event.result c.event.new.self c.event.ensures.happens good

pub returns-clause-ended : goal.returns-clause-ended
returns-clause-ended g c =
    let good : IsOk c.event.result = search rules in
    (ended_whole g.S.Service.answers c.args.hub.now c.args.session _ _ _ _ c.event.result c.event-ended.result c.event.new.self c.converse-outcome.new.hub c.event-ended.new.self
    c.requires c.event.ensures.happens good c.converse-outcome.ensures.keeps c.event-ended.ensures.happens).1
