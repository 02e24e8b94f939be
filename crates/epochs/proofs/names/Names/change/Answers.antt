use Rattle.commit.specs.Commitments.{commitment_bytes}
use Rattle.book.specs.declared.directory_refusal.Refusal.{Refusal}
use Rattle.epochs.specs.Addresses.{named}
use Rattle.epochs.specs.KeyChanges.{IsRefusedSo, refused_before}
use Rattle.epochs.specs.Versions.{in_order, versions_of}
use Rattle.epochs.proofs.KeyChanges.{histories_changed}
use Rattle.epochs.proofs.names.Names.change.Goals as goal

pub invariant_of-self : goal.invariant_of-self
invariant_of-self g c =
    let names = named (λ key. key.items) c.self.inside.histories.entries in
    let after = named (λ key. key.items) c.change_held.new.histories.entries in
    let kept = g.K.Keeper.kept c.args.keeper.now c.args.what.now c.change_held.new.keeper in
    let refused = λ (why : Refusal). IsRefusedSo g.K.Keeper.failed c.args.keeper.now c.args.what.now (refused_before c.args.change.now.page (versions_of names.versions c.args.change.now.name.now)) why c.change_held.new.keeper in
    histories_changed kept refused names after (in_order c.args.commitments.now.entries) (in_order c.change_held.new.commitments.entries) c.args.change.now.name.now
    (record { number = c.args.change.now.page; binding = record { key = c.args.change.now.key.now; salt = c.args.change.now.salt } }) (g.H.NodeHash.digest_of (commitment_bytes c.args.change.now.salt c.args.change.now.name.now c.args.change.now.key.now)) c.change_held.result
    c.self.invariant (rw (← c.self.view_is) at c.requires.fits) c.change_held.ensures.made
