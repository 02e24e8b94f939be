use Rattle.epochs.proofs.Versions.{ascends-append}
use Rattle.epochs.proofs.history.History.add.Goals as goal

pub invariant_of-self-2 : goal.invariant_of-self-2
invariant_of-self-2 g c =
    (c.self.invariant.0, rw (c.push_reserved.ensures.items, c.reserve.ensures.items) (ascends-append c.args.version c.self.inside.versions.items c.self.invariant.1 (rw (← c.self.view_is) at c.requires.later)))
