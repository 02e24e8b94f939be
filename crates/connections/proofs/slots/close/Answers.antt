use Rattle.connections.proofs.Closing.{closed}
use Rattle.connections.proofs.slots.close.Goals as goal

pub returns : goal.returns
returns g c =
    closed g.S.Sessions.opens g.S.Sessions.refuses g.S.Sessions.hears g.S.Sessions.misses g.S.Sessions.ends g.C.Connections.has c.args.place c.args.why
    c.args.connections.now c.close.new.self c.args.sessions.now c.end.new.self c.end.ensures g.met.C.Connections.passes c.close.ensures
