use Rattle.std.proofs.Common.{◌≡◌, ℕ, arith, sym, ap, ◌∙◌}
use Rattle.encoding.specs.declared.bound_key.BoundKey.{BoundKey}
use Rattle.monitor.specs.Views.{monitor_of}
use Rattle.monitor.proofs.Expected.{expected-at_last, expected-at_none, expected-greatest, mapped-copied}
use Rattle.monitor.proofs.monitor.Monitor.expected.Goals as goal

pub returns-in-Some-clause-value : goal.returns-in-Some-clause-value
returns-in-Some-clause-value g c =
    let at : c.behind-self.inside.key ≡ c.index.result.now.1 = ap (λ (change : ℕ × BoundKey). change.1) c.behind-self.view_is in
    rw (← c.self.view_is) (rw at (sym (expected-at_last c.self.inside.start c.self.inside.changes.items c.args.epoch c.promised_before.result c.in-Some.last c.index.result.now
    (rw c.deref.ensures.value at c.promised_before.ensures.point) (rw c.deref.ensures.value at c.promised_before.ensures.within) (omega (arith, c.in-Some.ensures.0, c.in-Some.ensures.1)) c.index.ensures)))

pub returns-in-None-clause-value : goal.returns-in-None-clause-value
returns-in-None-clause-value g c =
    rw (← c.self.view_is) (mapped-copied c.as_ref.result c.self.inside.start c.as_ref.ensures.value ∙ sym (expected-at_none c.self.inside.start c.self.inside.changes.items c.args.epoch c.promised_before.result
    (rw c.deref.ensures.value at c.promised_before.ensures.point) c.in-None.ensures))

pub returns-in-Some-clause-greatest : goal.returns-in-Some-clause-greatest
returns-in-Some-clause-greatest g c = rw (← c.self.view_is) (expected-greatest (monitor_of c.self.inside).watch c.args.epoch c.self.invariant.ascends)

pub returns-in-None-clause-greatest : goal.returns-in-None-clause-greatest
returns-in-None-clause-greatest g c = rw (← c.self.view_is) (expected-greatest (monitor_of c.self.inside).watch c.args.epoch c.self.invariant.ascends)
