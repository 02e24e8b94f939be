use Rattle.std.proofs.Common.{rules}
use Rattle.epochs.specs.Directories.{parts_of}
use Rattle.epochs.proofs.Changing.{taken_free, taken_later, taken_changeable, taken_shown, taken_waiting}
use Rattle.epochs.proofs.directory.Directory.is_taken.Goals as goal

pub returns-then-is_some-clause-taken : goal.returns-then-is_some-clause-taken
returns-then-is_some-clause-taken g c =
    rw (← c.self.view_is)
    (taken_shown _ (parts_of c.self.inside) _ _ c.self.invariant.0 c.args.name.now c.args.index.now (rw (← c.self.view_is) at c.requires) c.index.result.now c.len.result (search rules) c.index.ensures c.is_some.result (rw c.get.ensures at c.is_some.ensures)
    c.if-is_some.true)

pub returns-else-is_some-clause-taken : goal.returns-else-is_some-clause-taken
returns-else-is_some-clause-taken g c =
    rw (← c.self.view_is)
    (taken_waiting _ (parts_of c.self.inside) _ _ c.self.invariant.0 c.args.name.now c.args.index.now (rw (← c.self.view_is) at c.requires) c.index.result.now c.len.result (search rules) c.index.ensures c.is_some.result (rw c.get.ensures at c.is_some.ensures)
    c.contains.result c.contains.ensures c.if-is_some.false)

pub returns-else-is_some-clause-changeable : goal.returns-else-is_some-clause-changeable
returns-else-is_some-clause-changeable g c =
    rw (← c.self.view_is)
    (taken_changeable _ (parts_of c.self.inside) _ _ c.self.invariant.0 c.args.name.now c.args.index.now (rw (← c.self.view_is) at c.requires) c.index.result.now c.len.result (search rules) c.index.ensures c.is_some.result (rw c.get.ensures at c.is_some.ensures)
    c.contains.result c.contains.ensures c.if-is_some.false)

pub returns-else-is_some-clause-waits : goal.returns-else-is_some-clause-waits
returns-else-is_some-clause-waits g c =
    rw (← c.self.view_is)
    (taken_later _ (parts_of c.self.inside) _ _ c.self.invariant.0 c.args.name.now c.args.index.now (rw (← c.self.view_is) at c.requires) c.index.result.now c.len.result (search rules) c.index.ensures c.is_some.result (rw c.get.ensures at c.is_some.ensures)
    c.contains.result c.contains.ensures c.if-is_some.false)

pub returns-else-is_some-clause-free : goal.returns-else-is_some-clause-free
returns-else-is_some-clause-free g c =
    rw (← c.self.view_is)
    (taken_free _ (parts_of c.self.inside) _ _ c.self.invariant.0 c.args.name.now c.args.index.now (rw (← c.self.view_is) at c.requires) c.index.result.now c.len.result (search rules) c.index.ensures c.is_some.result (rw c.get.ensures at c.is_some.ensures)
    c.contains.result c.contains.ensures c.if-is_some.false)
