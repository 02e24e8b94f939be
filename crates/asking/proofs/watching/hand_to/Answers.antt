use Rattle.std.proofs.Common.{arith, subst}
use Rattle.std.proofs.lemmas.List.{get_or_default}
use Rattle.monitor.specs.Monitors.{Monitor}
use Rattle.asking.specs.Asking.{handed_told, HandsTo}
use Rattle.asking.specs.Reports.{report_of}
use Rattle.asking.proofs.Going.{told_onto}
use Rattle.asking.proofs.Handed.{handing_begins, handing_ends, handing_goes}
use Rattle.asking.proofs.watching.hand_to.Goals as goal

pub loop-monitor-init : goal.loop-monitor-init
loop-monitor-init g c = handing_begins g.H.NodeHash.digest_of g.V.VufCheck.accepted g.S.Verifier.verified c.args.signed.now c.args.promise.now c.args.monitors.now (report_of c.args.said.now)

pub loop-monitor-preserved : goal.loop-monitor-preserved
loop-monitor-preserved g c =
    handing_goes g.H.NodeHash.digest_of g.V.VufCheck.accepted g.S.Verifier.verified c.args.signed.now c.args.promise.now c.args.monitors.now c.loop-monitor.monitors (report_of c.args.said.now)
    (report_of c.loop-monitor.said) (report_of c.tell_handed.new.said) c.loop-monitor.monitor-index c.in_ok-why.why c.hand_one.new.monitor (omega arith) (c.loop-monitor.auto.monitors)
    (λ d. subst (λ (one : Monitor). HandsTo g.H.NodeHash.digest_of g.V.VufCheck.accepted g.S.Verifier.verified c.args.signed.now c.args.promise.now one c.in_ok-why.why c.hand_one.new.monitor)
    (get_or_default c.loop-monitor.monitors c.loop-monitor.monitor-index c.monitor-item.result d (omega arith)) c.in_ok-why.ensures)
    (told_onto c.loop-monitor.said c.tell_handed.new.said (handed_told c.in_ok-why.why) c.in_ok-tell_handed.ensures) c.loop-monitor.invariant

pub returns : goal.returns
returns g c =
    handing_ends g.H.NodeHash.digest_of g.V.VufCheck.accepted g.S.Verifier.verified c.args.signed.now c.args.promise.now c.args.monitors.now c.loop-monitor.monitors (report_of c.args.said.now)
    (report_of c.loop-monitor.said) c.loop-monitor.monitor-index c.loop-monitor.auto.monitors c.loop-monitor-test.false c.loop-monitor.invariant
