use Rattle.std.specs.Prelude.{◌≡◌, ◌+◌, ◌≤◌}
use Rattle.connections.specs.Fitting.{AreUnread, IsKnownBusy, Tours}
use Rattle.connections.specs.Histories.{Hearing}
use Rattle.connections.proofs.Touring.{Attended, Below, UnreadFrom}
use Rattle.connections.proofs.places.hear_all.Given as goal

-- the places so far have had their turn
abbrev pub invariant-loop-place : goal.invariant-loop-place
invariant-loop-place g l = Tours g.S.Sessions.opens g.S.Sessions.refuses g.S.Sessions.hears g.S.Sessions.misses g.S.Sessions.ends g.C.Connections.has Hearing l.round.idle l.round.now l.round.stopped 0 0 l.fn.work.wanting l.work.wanting (λ before. AreUnread before × IsKnownBusy l.fn.work.is_busy before) (λ acts. Below Attended l.place acts × UnreadFrom l.place acts × IsKnownBusy l.work.is_busy acts)
    l.fn.connections l.fn.sessions l.fn.places l.connections l.sessions l.places
    × (l.work.wanting ≤ l.fn.work.wanting + l.place) × (l.work.pause ≡ l.fn.work.pause)
