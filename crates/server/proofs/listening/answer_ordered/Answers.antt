use Rattle.server.specs.ConnectionOptions.{connections_of}
use Rattle.server.proofs.Ordered.{answers_ordered}
use Rattle.server.proofs.listening.answer_ordered.Goals as goal

pub returns : goal.returns
returns g c = λ has.
    let shown = c.answer_crowd.ensures.shown has in
    answers_ordered g.K.Keeper.kept g.K.Keeper.failed (connections_of c.args.order) c.args.hub _ _ _ _ c.new-sessions.result.hub c.answer_crowd.new.sessions.hub _ _ _ c.requires.none c.new-sessions.ensures.hub c.new-sessions.ensures.none
    c.limits_of.ensures.idle c.limits_of.ensures.report c.limits_of.ensures.count c.requires.size shown.0 shown.2 shown.3 shown.4 shown.5
