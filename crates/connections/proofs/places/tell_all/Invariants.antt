use Rattle.connections.specs.Fitting.{IsKnownBusy, KnowsPause, Tours}
use Rattle.connections.specs.Histories.{Telling}
use Rattle.connections.proofs.Touring.{Below, Served}
use Rattle.connections.proofs.places.tell_all.Given as goal

-- the places so far have had their turn
abbrev pub invariant-loop-place : goal.invariant-loop-place
invariant-loop-place g l = Tours g.S.Sessions.opens g.S.Sessions.refuses g.S.Sessions.hears g.S.Sessions.misses g.S.Sessions.ends g.C.Connections.has (Telling l.round.is_synced) l.round.idle l.round.now l.round.stopped 0 0 l.fn.work.wanting l.work.wanting (IsKnownBusy l.fn.work.is_busy) (λ acts. Below (Served l.round.idle) l.place acts × KnowsPause l.round.idle l.place l.fn.work.pause l.work.is_busy l.work.pause acts)
    l.fn.connections l.fn.sessions l.fn.places l.connections l.sessions l.places
