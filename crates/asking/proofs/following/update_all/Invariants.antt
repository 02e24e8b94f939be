use Rattle.std.proofs.Common.{◌≡◌}
use Rattle.asking.specs.Following.{MonitorUpdates}
use Rattle.play.proofs.Moved.{AreMoved}
use Rattle.asking.proofs.following.update_all.Given as goal

-- the monitors before this place took the roots, and the others are as they were
abbrev pub invariant-loop-monitor : goal.invariant-loop-monitor
invariant-loop-monitor g l = AreMoved (MonitorUpdates g.H.NodeHash.digest_of g.S.Verifier.verified l.list) l.fn.monitors l.monitor-index l.monitors × (l.said ≡ l.fn.said)
