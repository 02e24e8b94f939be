use Rattle.std.proofs.Common.{◌∙◌, List, ap, drop, subst}
use Rattle.memory.specs.Learning.{EachOfSome, MarksOne}
use Rattle.monitor.specs.Monitors.{Monitor}
use Rattle.runs.proofs.Adding.{some-moved}
use Rattle.runs.proofs.Ended.{err_so}
use Rattle.runs.proofs.state.State.learn_marks.Goals as goal

pub returns-in_err-mark_watched-clause-some : goal.returns-in_err-mark_watched-clause-some
returns-in_err-mark_watched-clause-some g c =
    let monitors = c.args.asker.now.monitors.items in
    let each = subst (λ (ms : List Monitor). EachOfSome (MarksOne ms) c.behind.result.now c.args.self.now.memory c.mark_watched.new.self) c.deref.ensures.value c.in_err-mark_watched.ensures.err in
    err_so _ (some-moved monitors c.behind.result.now c.looked_at-known.result c.args.self.now.memory c.mark_watched.new.self (c.behind.ensures ∙ ap (drop c.looked_at-known.result) c.deref-2.ensures.value) each)
