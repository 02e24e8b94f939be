use Rattle.std.proofs.Common.{◌≡◌, ◌≢◌, List, inl, inr, refl, rules}
use Rattle.memory.specs.declared.mark.Mark.{Mark}
use Rattle.runs.specs.Lateness.{IsMarkedTo}
use Rattle.asking.proofs.Joined.{at_end, from_item}
use Rattle.runs.proofs.lateness.marked_epoch.Goals as goal

pub returns-then-eq : goal.returns-then-eq
returns-then-eq c =
    let named : c.mark-item.result.name ≡ c.args.name.now = search rules in
    c.loop-mark.invariant c.mark-item.result.epoch
    (from_item (λ (marks : List Mark). IsMarkedTo c.args.name.now c.mark-item.result.epoch marks) c.args.marks.now c.loop-mark.mark-index c.mark-item.result c.loop-mark-test.true c.mark-item.is (inl (named, refl)))

pub loop-mark-preserved : goal.loop-mark-preserved
loop-mark-preserved c =
    let other : c.mark-item.result.name ≢ c.args.name.now = search rules in
    λ epoch rest. c.loop-mark.invariant epoch
    (from_item (λ (marks : List Mark). IsMarkedTo c.args.name.now epoch marks) c.args.marks.now c.loop-mark.mark-index c.mark-item.result c.loop-mark-test.true c.mark-item.is (inr (other, rest)))

pub returns : goal.returns
returns c = c.loop-mark.invariant 0 (at_end (λ (marks : List Mark). IsMarkedTo c.args.name.now 0 marks) c.args.marks.now c.loop-mark.mark-index c.loop-mark-test.false refl)
