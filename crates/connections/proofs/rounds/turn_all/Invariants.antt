use Rattle.std.specs.Prelude.{◌≡◌, [], length}
use Rattle.connections.specs.Pauses.{pause_of}
use Rattle.connections.specs.Telling.{TellsSome}
use Rattle.connections.proofs.Touring.{MayGoOn, Stands}
use Rattle.connections.proofs.rounds.turn_all.Given as goal

abbrev pub invariant-loop-round : goal.invariant-loop-round
invariant-loop-round g l = (l.state.round.idle ≡ l.fn.limits.idle)
    × (l.reports.every ≡ l.fn.limits.report)
    × MayGoOn l.state.left l.state.round.stopped l.places
    × TellsSome l.fn.limits.report l.is_told (g.E.Write.contents l.fn.errors) (g.E.Write.contents l.errors)
    × (g.C.Connections.has l.fn.connections []
    → Stands g.S.Sessions.opens g.S.Sessions.refuses g.S.Sessions.hears g.S.Sessions.misses g.S.Sessions.ends g.C.Connections.has g.S.Sessions.is_unkept g.S.Sessions.any_unkept l.fn.limits.report l.fn.limits.idle l.fn.limits.count (length l.fn.places) l.fn.sessions (g.E.Write.contents l.fn.errors) (g.E.Write.contents l.errors) l.is_told l.connections l.sessions l.places l.state.round.stopped l.state.left (pause_of l.state.work.is_busy l.state.work.pause) l._round)
