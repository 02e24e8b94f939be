use Rattle.std.proofs.Common.{◌≡◌, ◌∙◌, Err, ap, subst, arith, get_or, refl, rules, sym}
use Rattle.std.proofs.lemmas.List.{get_or_default}
use Rattle.monitor.specs.Monitors.{Monitor}
use Rattle.asking.specs.Following.{MonitorUpdates}
use Rattle.asking.specs.Reports.{report_of}
use Rattle.asking.specs.declared.ask_fault.AskFault.TheVariants.{Stopped}
use Rattle.play.proofs.Moved.{moved-begin, moved-end, moved-step}
use Rattle.asking.proofs.Stopped.{one_refuses}
use Rattle.asking.proofs.following.update_all.Goals as goal

pub loop-monitor-init : goal.loop-monitor-init
loop-monitor-init g c = (moved-begin (MonitorUpdates g.H.NodeHash.digest_of g.S.Verifier.verified c.args.list.now) c.args.monitors.now, refl)

pub loop-monitor-preserved : goal.loop-monitor-preserved
loop-monitor-preserved g c = (
  moved-step (MonitorUpdates g.H.NodeHash.digest_of g.S.Verifier.verified c.args.list.now) c.args.monitors.now c.loop-monitor.monitors c.loop-monitor.monitor-index c.update.new.monitor (omega arith)
      (λ d. subst (λ (one : Monitor). MonitorUpdates g.H.NodeHash.digest_of g.S.Verifier.verified c.args.list.now one c.update.new.monitor)
      (get_or_default c.loop-monitor.monitors c.loop-monitor.monitor-index c.monitor-item.result d (omega arith)) c.in_ok-update.ensures.updates) c.loop-monitor.invariant.0,
  c.in_ok-update.ensures.said ∙ c.loop-monitor.invariant.1,
)

pub returns-clause-updates : goal.returns-clause-updates
returns-clause-updates g c =
    moved-end (MonitorUpdates g.H.NodeHash.digest_of g.S.Verifier.verified c.args.list.now) c.args.monitors.now c.loop-monitor.monitors c.loop-monitor.monitor-index c.loop-monitor.auto.monitors
    c.loop-monitor-test.false c.loop-monitor.invariant.0

pub returns-in_err-update-clause-refused : goal.returns-in_err-update-clause-refused
returns-in_err-update-clause-refused g c =
    let passed : c.from_residual.result ≡ Err c.in_err-update.field-0.0 = search rules in
    λ stopped.
    let here : c.update.result ≡ Err Stopped = search (rules, sym passed ∙ stopped) in
    let monitor = get_or c.loop-monitor.monitors c.loop-monitor.monitor-index c.monitor-item.result in
    one_refuses g.H.NodeHash.digest_of g.S.Verifier.verified c.args.list.now c.args.monitors.now c.loop-monitor.monitors c.loop-monitor.monitor-index monitor c.update.new.monitor
    c.args.said.now c.loop-monitor.said c.update.new.said (omega arith) c.loop-monitor.auto.monitors
    (λ d. get_or_default c.loop-monitor.monitors c.loop-monitor.monitor-index c.monitor-item.result d (omega arith)) c.loop-monitor.invariant.0 c.loop-monitor.invariant.1 (c.update.ensures.refused here)

pub returns-in_err-update-clause-halts : goal.returns-in_err-update-clause-halts
returns-in_err-update-clause-halts g c =
    let passed : c.from_residual.result ≡ Err c.in_err-update.field-0.0 = search rules in
    rw passed (λ unstopped. let halts = c.in_err-update.ensures.halts unstopped in (halts.0 ∙ ap report_of c.loop-monitor.invariant.1, halts.1))
