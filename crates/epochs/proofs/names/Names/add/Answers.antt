use Rattle.book.specs.declared.directory_refusal.Refusal.{Refusal}
use Rattle.book.specs.Turns.{IsUnkept}
use Rattle.epochs.proofs.Named.{histories_after}
use Rattle.epochs.proofs.names.Names.add.Goals as goal

pub invariant_of-self : goal.invariant_of-self
invariant_of-self g c =
    let kept = g.K.Keeper.kept c.args.keeper.now c.args.what.now c.add_to_new.new.keeper in
    let unkept = λ (why : Refusal). IsUnkept g.K.Keeper.failed c.args.keeper.now c.args.what.now why c.add_to_new.new.keeper in
    histories_after kept unkept c.args.name.now c.args.address.now c.args.version c.add_to_new.result _ _ c.self.invariant (rw (← c.self.view_is) at c.requires.later) c.add_to_new.ensures
