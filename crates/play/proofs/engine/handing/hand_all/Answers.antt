use Rattle.std.proofs.Common.{subst, arith, slice_index_or}
use Rattle.std.specs.Prelude.{⊤}
use Rattle.std.proofs.lemmas.List.{get_or_default}
use Rattle.monitor.specs.Monitors.{Monitor}
use Rattle.play.specs.Handed.{IsHanded, MayBeHanded}
use Rattle.play.proofs.Moved.{moved-begin, moved-end, moved-step, still-holds}
use Rattle.play.proofs.engine.handing.hand_all.Goals as goal

pub loop-monitor-init : goal.loop-monitor-init
loop-monitor-init g c = (moved-begin (λ (before after : Monitor). ⊤) c.args.monitors.now, λ promised spelled. moved-begin (IsHanded c.args.name.now promised) c.args.monitors.now)

pub hand_to-requires : goal.hand_to-requires
hand_to-requires g c =
    record {
      may = still-holds (MayBeHanded g.H.NodeHash.digest_of g.S.Verifier.verified c.args.name.now c.args.key.now c.args.promise.now) (λ (before after : Monitor). ⊤)
          c.args.monitors.now c.loop-monitor.monitors c.loop-monitor.monitor-index c.loop-monitor.auto.monitors (omega arith) c.loop-monitor.invariant.0 c.requires.may c.monitor-item.result;
    }

pub loop-monitor-preserved : goal.loop-monitor-preserved
loop-monitor-preserved g c = (
  moved-step (λ (before after : Monitor). ⊤) c.args.monitors.now c.loop-monitor.monitors c.loop-monitor.monitor-index c.hand_to.new.monitor (omega arith) (λ d. tt) c.loop-monitor.invariant.0,
  λ promised spelled.
      let item : Monitor = slice_index_or c.loop-monitor.monitors c.loop-monitor.monitor-index c.monitor-item.result in
      let handed : IsHanded c.args.name.now promised item c.hand_to.new.monitor = c.in_ok-hand_to.ensures promised spelled in
      moved-step (IsHanded c.args.name.now promised) c.args.monitors.now c.loop-monitor.monitors c.loop-monitor.monitor-index c.hand_to.new.monitor (omega arith)
      (λ d. subst (λ (one : Monitor). IsHanded c.args.name.now promised one c.hand_to.new.monitor)
      (get_or_default c.loop-monitor.monitors c.loop-monitor.monitor-index c.monitor-item.result d (omega arith)) handed) (c.loop-monitor.invariant.1 promised spelled),
)

pub returns : goal.returns
returns g c promised spelled =
    moved-end (IsHanded c.args.name.now promised) c.args.monitors.now c.loop-monitor.monitors c.loop-monitor.monitor-index c.loop-monitor.auto.monitors
    c.loop-monitor-test.false (c.loop-monitor.invariant.1 promised spelled)
