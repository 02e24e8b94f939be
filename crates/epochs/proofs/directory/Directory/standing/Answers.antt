use Rattle.std.proofs.Common.{ap, rules}
use Rattle.std.specs.Prelude.{is_some}
use Rattle.epochs.specs.Directories.{parts_of}
use Rattle.epochs.proofs.Addresses.{is_shown, is_waiting, none_shown, none_waits}
use Rattle.epochs.proofs.directory.Directory.standing.Goals as goal

pub returns-in-Some-clause-shown : goal.returns-in-Some-clause-shown
returns-in-Some-clause-shown g c =
    rw (← c.self.view_is)
    (is_shown _ (parts_of c.self.inside) _ _ c.self.invariant.0 c.args.name.now c.len.result (search rules) c.in-Some.history.now.versions (rw c.bytes.ensures.value at c.in-Some.ensures.versions)
    (λ version. version.now.binding) c.shown.result c.is_some.result c.is_some.ensures c.shown.ensures)

pub returns-in-Some-clause-waits : goal.returns-in-Some-clause-waits
returns-in-Some-clause-waits g c =
    rw (← c.self.view_is)
    (is_waiting _ (parts_of c.self.inside) _ _ c.self.invariant.0 c.args.name.now c.len-in-Some.result (search rules) c.in-Some.history.now.versions (rw c.bytes.ensures.value at c.in-Some.ensures.versions)
    (λ version. version.now.binding) c.waiting.result c.is_some-in-Some.result c.is_some-in-Some.ensures c.waiting.ensures)

pub returns-in-None-clause-shown : goal.returns-in-None-clause-shown
returns-in-None-clause-shown g c =
    rw (← c.self.view_is) (ap is_some (none_shown _ (parts_of c.self.inside) _ _ c.self.invariant.0 c.args.name.now (rw c.bytes.ensures.value at c.in-None.ensures.versions)))

pub returns-in-None-clause-waits : goal.returns-in-None-clause-waits
returns-in-None-clause-waits g c =
    rw (← c.self.view_is) (ap is_some (none_waits _ (parts_of c.self.inside) _ _ c.self.invariant.0 c.args.name.now (rw c.bytes.ensures.value at c.in-None.ensures.versions)))
