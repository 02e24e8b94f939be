use Rattle.std.proofs.Common.{subst, arith, slice_index_or}
use Rattle.std.specs.Prelude.{⊤}
use Rattle.std.proofs.lemmas.List.{get_or_default}
use Rattle.monitor.specs.Monitors.{Monitor}
use Rattle.play.specs.Taking.{MonitorTakes}
use Rattle.play.specs.Wanting.{MayTake}
use Rattle.play.proofs.Moved.{moved-begin, moved-end, moved-step, still-holds}
use Rattle.play.proofs.engine.following.update_all.Goals as goal

pub loop-monitor-init : goal.loop-monitor-init
loop-monitor-init g c = (moved-begin (λ (before after : Monitor). ⊤) c.args.monitors.now, λ roots spelled. moved-begin (MonitorTakes g.H.NodeHash.digest_of g.S.Verifier.verified roots) c.args.monitors.now)

pub update-requires : goal.update-requires
update-requires g c = record {
  offered = still-holds (λ (monitor : Monitor). MayTake g.H.NodeHash.digest_of g.S.Verifier.verified c.args.list.now monitor.client.chain) (λ (before after : Monitor). ⊤)
      c.args.monitors.now c.loop-monitor.monitors c.loop-monitor.monitor-index c.loop-monitor.auto.monitors (omega arith) c.loop-monitor.invariant.0 c.requires.offered c.monitor-item.result;
}

pub loop-monitor-preserved : goal.loop-monitor-preserved
loop-monitor-preserved g c = (
  moved-step (λ (before after : Monitor). ⊤) c.args.monitors.now c.loop-monitor.monitors c.loop-monitor.monitor-index c.update.new.monitor (omega arith) (λ d. tt) c.loop-monitor.invariant.0,
  λ roots spelled.
      let item : Monitor = slice_index_or c.loop-monitor.monitors c.loop-monitor.monitor-index c.monitor-item.result in
      let taken : MonitorTakes g.H.NodeHash.digest_of g.S.Verifier.verified roots item c.update.new.monitor = c.in_ok-update.ensures roots spelled in
      moved-step (MonitorTakes g.H.NodeHash.digest_of g.S.Verifier.verified roots) c.args.monitors.now c.loop-monitor.monitors c.loop-monitor.monitor-index c.update.new.monitor (omega arith)
      (λ d. subst (λ (one : Monitor). MonitorTakes g.H.NodeHash.digest_of g.S.Verifier.verified roots one c.update.new.monitor)
      (get_or_default c.loop-monitor.monitors c.loop-monitor.monitor-index c.monitor-item.result d (omega arith)) taken) (c.loop-monitor.invariant.1 roots spelled),
)

pub returns : goal.returns
returns g c roots spelled =
    moved-end (MonitorTakes g.H.NodeHash.digest_of g.S.Verifier.verified roots) c.args.monitors.now c.loop-monitor.monitors c.loop-monitor.monitor-index c.loop-monitor.auto.monitors
    c.loop-monitor-test.false (c.loop-monitor.invariant.1 roots spelled)
