use Rattle.std.proofs.Common.{subst, sym, ap, inr, ℕ}
use Rattle.book.specs.declared.directory_refusal.Refusal.{Refusal}
use Rattle.book.specs.Turns.{IsUnkept}
use Rattle.epochs.specs.Versions.{AllBefore, in_order}
use Rattle.epochs.specs.KeyChanges.{IsRefusedSo, refused_before}
use Rattle.epochs.specs.Histories.{Version}
use Rattle.epochs.proofs.KeyChanges.{changed_history}
use Rattle.epochs.proofs.key_change.change_at.Goals as goal

pub add_at-requires-clause-later : goal.add_at-requires-clause-later
add_at-requires-clause-later g c =
    let fits = c.requires.fits c.in-Ok.ensures in
    subst (λ (n : ℕ). AllBefore n c.args.history.now.versions) (sym (ap (λ (v : Version). v.number) c.in_ok-version.ensures)) fits.0

pub add_at-requires-clause-free : goal.add_at-requires-clause-free
add_at-requires-clause-free g c = (c.requires.fits c.in-Ok.ensures).1

pub returns-clause-made : goal.returns-clause-made
returns-clause-made g c =
    let due = refused_before c.args.change.now.page c.args.history.now.versions in
    let kept = g.K.Keeper.kept c.args.keeper.now c.args.what.now c.add_at.new.keeper in
    let unkept = λ (why : Refusal). IsUnkept g.K.Keeper.failed c.args.keeper.now c.args.what.now why c.add_at.new.keeper in
    let refused = λ (why : Refusal). IsRefusedSo g.K.Keeper.failed c.args.keeper.now c.args.what.now due why c.add_at.new.keeper in
    changed_history kept unkept refused c.args.history.now c.add_at.new.history (in_order c.args.commitments.now.entries) (in_order c.add_at.new.commitments.entries) c.in_ok-version.version _ c.commit-commitment.result _ c.add_at.result
    c.in-Ok.ensures c.in_ok-version.ensures c.commit-commitment.ensures.value (λ why u. inr (c.in-Ok.ensures, u)) c.add_at.ensures
