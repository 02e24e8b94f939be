use Rattle.std.proofs.Common.{◌≡◌, ◌∙◌}
use Rattle.connections.proofs.Touring.{one_round}
use Rattle.connections.proofs.rounds.turn.Goals as goal

pub returns-clause-turns : goal.returns-clause-turns
returns-clause-turns g c =
    let same : c.begin-round.result.idle ≡ c.args.last.round.idle = c.begin-round.ensures.same in
    one_round g.S.Sessions.opens g.S.Sessions.refuses g.S.Sessions.hears g.S.Sessions.misses g.S.Sessions.ends g.C.Connections.has c.args.last.round.idle c.begin-round.result.now c.args.last.left c.take_new-left.result _
    c.new-work.result.wanting c.take_new-left.new.work.wanting c.hear_new.new.work.wanting c.tell_all.new.work.wanting c.hear_new.new.work.pause c.tell_all.new.work.pause c.args.last.round.stopped c.begin-round.result.stopped c.sync.result
    c.take_new-left.new.work.is_busy c.hear_new.new.work.is_busy c.tell_all.new.work.is_busy c.args.connections.now c.begin-round.new.connections c.take_new-left.new.connections c.hear_new.new.connections c.sync.new.self c.tell_all.new.connections
    c.args.sessions.now c.take_new-left.new.sessions c.hear_new.new.sessions c.tell_all.new.sessions c.args.places.now c.begin-round.new.places c.take_new-left.new.places c.hear_new.new.places c.tell_all.new.places
    c.begin-round.auto.places c.take_new-left.auto.places c.hear_new.auto.places c.tell_all.auto.places c.new-work.ensures.none.0 (c.hear_new.ensures.pause ∙ c.take_new-left.ensures.pause ∙ c.new-work.ensures.pause)
    c.begin-round.ensures.begins (rw (same, c.new-work.ensures.none.1) at c.take_new-left.ensures.tours) (rw same at c.hear_new.ensures.tours) c.sync.ensures (rw same at c.tell_all.ensures)
