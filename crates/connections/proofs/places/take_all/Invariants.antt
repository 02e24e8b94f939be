use Rattle.std.specs.Prelude.{◌≡◌, ◌+◌, ◌≤◌}
use Rattle.connections.specs.Fairness.{AreUsed}
use Rattle.connections.specs.Fitting.{AreUnread, IsKnownBusy, Tours}
use Rattle.connections.specs.Histories.{Hearing}
use Rattle.connections.proofs.places.take_all.Given as goal

-- the places so far have had their turn
abbrev pub invariant-loop-place : goal.invariant-loop-place
invariant-loop-place g l = Tours g.S.Sessions.opens g.S.Sessions.refuses g.S.Sessions.hears g.S.Sessions.misses g.S.Sessions.ends g.C.Connections.has Hearing l.round.idle l.round.now l.round.stopped l.fn.left l.left l.fn.work.wanting l.work.wanting (λ before. AreUnread before × IsKnownBusy l.fn.work.is_busy before) (λ acts. AreUsed l.place acts × AreUnread acts × IsKnownBusy l.work.is_busy acts)
    l.fn.connections l.fn.sessions l.fn.places l.connections l.sessions l.places
    × (l.work.wanting ≤ l.fn.work.wanting + l.place) × (l.work.pause ≡ l.fn.work.pause)
