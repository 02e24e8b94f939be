use Rattle.std.proofs.Common.{[], None, append-nil, inl, inr, refl, rules, sym}
use Rattle.memory.specs.Learning.{IsMarkFor}
use Rattle.memory.specs.Watching.{WatchedUpTo}
use Rattle.memory.proofs.Learned.{on_ok}
use Rattle.memory.proofs.memory.Memory.mark_one.Goals as goal

pub returns-in_default-clause-ok : goal.returns-in_default-clause-ok
returns-in_default-clause-ok g c =
    let none : WatchedUpTo c.args.monitors.now c.args.monitor.now.name None = search rules in
    ([], inr (none, refl, refl), sym (append-nil c.args.lines.now.items))

pub returns-clause-ok : goal.returns-clause-ok
returns-clause-ok g c =
    let is : IsMarkFor c.args.monitors.now c.args.self.now.marks c.args.monitor.now c.moved-mark.result = search rules in
    on_ok c.learn.result (λ learned. let (news, one, grown) = learned in (news, inl (c.moved-mark.result, is, one), grown)) c.learn.ensures.ok
