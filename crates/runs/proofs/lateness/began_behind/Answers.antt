use Rattle.std.proofs.Common.{◌≡◌, ◌≢◌, List, [], inl, inr, refl, rules}
use Rattle.memory.specs.declared.mark.Mark.{Mark}
use Rattle.monitor.specs.Monitors.{Monitor}
use Rattle.runs.specs.Lateness.{BeganBehind}
use Rattle.asking.proofs.Joined.{at_end, from_item}
use Rattle.runs.proofs.lateness.began_behind.Goals as goal

pub returns-then-eq : goal.returns-then-eq
returns-then-eq g c =
    let named : c.mark-item.result.name ≡ c.args.name.now = search rules in
    c.loop-mark.invariant c.mark-item.result.since
    (from_item (λ (marks : List Mark). BeganBehind marks c.args.monitors.now c.args.name.now c.mark-item.result.since) c.args.marks.now c.loop-mark.mark-index c.mark-item.result c.loop-mark-test.true c.mark-item.is (inl (named, refl)))

pub loop-mark-preserved : goal.loop-mark-preserved
loop-mark-preserved g c =
    let other : c.mark-item.result.name ≢ c.args.name.now = search rules in
    λ epoch rest. c.loop-mark.invariant epoch
    (from_item (λ (marks : List Mark). BeganBehind marks c.args.monitors.now c.args.name.now epoch) c.args.marks.now c.loop-mark.mark-index c.mark-item.result c.loop-mark-test.true c.mark-item.is (inr (other, rest)))

pub loop-monitor-init : goal.loop-monitor-init
loop-monitor-init g c = λ epoch rest.
    c.loop-mark.invariant epoch (at_end (λ (marks : List Mark). BeganBehind marks c.args.monitors.now c.args.name.now epoch) c.args.marks.now c.loop-mark.mark-index c.loop-mark-test.false rest)

pub returns-then-eq-2 : goal.returns-then-eq-2
returns-then-eq-2 g c =
    let named : c.monitor-item.result.name ≡ c.args.name.now = search rules in
    c.loop-monitor.invariant c.begins_behind.result
    (from_item (λ (monitors : List Monitor). BeganBehind [] monitors c.args.name.now c.begins_behind.result) c.args.monitors.now c.loop-monitor.monitor-index c.monitor-item.result c.loop-monitor-test.true c.monitor-item.is (inl (named, c.begins_behind.ensures)))

pub loop-monitor-preserved : goal.loop-monitor-preserved
loop-monitor-preserved g c =
    let other : c.monitor-item.result.name ≢ c.args.name.now = search rules in
    λ epoch rest. c.loop-monitor.invariant epoch
    (from_item (λ (monitors : List Monitor). BeganBehind [] monitors c.args.name.now epoch) c.args.monitors.now c.loop-monitor.monitor-index c.monitor-item.result c.loop-monitor-test.true c.monitor-item.is (inr (other, rest)))

pub returns : goal.returns
returns g c = c.loop-monitor.invariant 0 (at_end (λ (monitors : List Monitor). BeganBehind [] monitors c.args.name.now 0) c.args.monitors.now c.loop-monitor.monitor-index c.loop-monitor-test.false refl)
