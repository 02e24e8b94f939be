use Rattle.std.proofs.Common.{List}
use Rattle.std.specs.Prelude.{⊤}
use Rattle.rootchain.specs.RootLists.{SpellsRoots}
use Rattle.rootchain.specs.declared.signed_root.SignedRoot.{SignedRoot}
use Rattle.monitor.specs.Monitors.{Monitor}
use Rattle.play.specs.Taking.{MonitorTakes}
use Rattle.play.proofs.Moved.{AreMoved}
use Rattle.play.proofs.engine.following.update_all.Given as goal

abbrev pub invariant-loop-monitor : goal.invariant-loop-monitor
invariant-loop-monitor g l = AreMoved (λ (before after : Monitor). ⊤) l.fn.monitors l.monitor-index l.monitors
    × ((roots : List SignedRoot) → SpellsRoots l.list roots → AreMoved (MonitorTakes g.H.NodeHash.digest_of g.S.Verifier.verified roots) l.fn.monitors l.monitor-index l.monitors)
