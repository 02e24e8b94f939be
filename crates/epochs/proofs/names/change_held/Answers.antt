use Rattle.std.proofs.Common.{rules, ◌≡◌, ap, refl, sym, inl, Option, Some}
use Rattle.std.specs.Prelude.{is_some}
use Rattle.std.specs.Map.{lookup}
use Rattle.book.specs.declared.directory_refusal.Refusal.{Refusal}
use Rattle.epochs.specs.KeyChanges.{IsRefusedSo}
use Rattle.epochs.specs.Versions.{in_order}
use Rattle.epochs.proofs.Hashed.{test}
use Rattle.epochs.proofs.KeyChanges.{changed_names, fits_there, not_there}
use Rattle.epochs.proofs.Named.{named-put}
use Rattle.epochs.proofs.names.change_held.Goals as goal

pub change_at-requires-clause-fits : goal.change_at-requires-clause-fits
change_at-requires-clause-fits g c =
    let es = c.args.histories.now.entries in
    let found : lookup (test (λ key. key.items) c.args.change.now.name.now) es ≡ Some c.in-Some.history.now = rw c.bytes.ensures.value at (sym c.in-Some.ensures.value) in
    fits_there (λ key. key.items) c.args.change.now.name.now es c.in-Some.history.now found (in_order c.args.commitments.now.entries) c.args.change.now.page c.requires.fits

pub returns-in-Some-clause-made : goal.returns-in-Some-clause-made
returns-in-Some-clause-made g c =
    let es = c.args.histories.now.entries in
    let kept = g.K.Keeper.kept c.args.keeper.now c.args.what.now c.change_at.new.keeper in
    let refused = λ (due : Option Refusal) (why : Refusal). IsRefusedSo g.K.Keeper.failed c.args.keeper.now c.args.what.now due why c.change_at.new.keeper in
    let found : lookup (test (λ key. key.items) c.args.change.now.name.now) es ≡ Some c.in-Some.history.now = rw c.bytes.ensures.value at (sym c.in-Some.ensures.value) in
    let after = c.get_mut.follows.lender c.change_at.new.history in
    let writes = rw c.bytes.ensures.value at ((c.get_mut.follows.holds c.change_at.new.history).3) in
    changed_names (λ key. key.items) c.args.change.now.name.now es c.in-Some.history.now found kept refused (in_order c.args.commitments.now.entries) (in_order c.change_at.new.commitments.entries) _ _ c.change_at.result after.entries after.entries c.change_at.new.history
    refl (named-put (λ key. key.items) c.args.change.now.name.now c.change_at.new.history c.args.histories.now after (writes (ap is_some found))) c.change_at.ensures.made

pub returns-in-None-clause-made : goal.returns-in-None-clause-made
returns-in-None-clause-made g c =
    (search rules, refl, inl (not_there (λ key. key.items) c.args.change.now.name.now c.args.histories.now.entries (rw c.bytes.ensures.value at (sym c.in-None.ensures.value)) c.args.change.now.page, refl))
