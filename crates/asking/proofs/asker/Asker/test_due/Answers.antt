use Rattle.std.proofs.Common.{◌≡◌, ◌≢◌, ◌∙◌, Ok, Result, Some, ap, inl, inr, refl, rules, subst, sym}
use Rattle.client.specs.Dues.{Dues}
use Rattle.client.specs.declared.client_refusal.Refusal.{Refusal}
use Rattle.client.specs.declared.due.Due.{Due}
use Rattle.client.specs.declared.due.Due.TheVariants.{Broken}
use Rattle.asking.specs.Reports.{silent}
use Rattle.asking.specs.Testing.{shown_told}
use Rattle.asking.proofs.Handed.{tells_silent}
use Rattle.asking.proofs.Tested.{shown_evidence}
use Rattle.asking.proofs.asker.Asker.test_due.Goals as goal

pub returns-then-ne-clause-tests : goal.returns-then-ne-clause-tests
returns-then-ne-clause-tests g c =
    let other : c.due_epoch.result ≢ Some c.args.epoch = search rules in
    (silent, (c.due_epoch.result, c.due_epoch.ensures, inl (other, refl, refl)), tells_silent c.args.said.now)

pub returns-in-Ok-Broken-clause-tests : goal.returns-in-Ok-Broken-clause-tests
returns-in-Ok-Broken-clause-tests g c =
    let due : c.due_epoch.result ≡ Some c.args.epoch = search rules in
    let is = c.in-Ok-Broken.is ∙ ap (λ (d : Due). let r : Result Due Refusal = Ok d in r) c.in-Ok-Broken.field-0-is in
    shown_evidence g.H.NodeHash.digest_of g.V.VufCheck.accepted c.tell_broken.result c.args.self.now.client c.args.name.now c.args.epoch c.args.reply.now c.due_epoch.result (Ok (Broken c.in-Ok-Broken.broken)) c.due.new.self
    c.args.said.now c.tell_broken.new.said c.due_epoch.ensures due
    (subst (λ (r : Result Due Refusal). Dues g.H.NodeHash.digest_of g.V.VufCheck.accepted c.args.self.now.client c.args.name.now c.args.reply.now r c.due.new.self) is c.due.ensures.due) c.tell_broken.ensures

pub returns-in-Ok-Kept-clause-tests : goal.returns-in-Ok-Kept-clause-tests
returns-in-Ok-Kept-clause-tests g c =
    let due : c.due_epoch.result ≡ Some c.args.epoch = search rules in
    let quiet = ap shown_told (c.in-Ok-Kept.is ∙ ap (λ (d : Due). let r : Result Due Refusal = Ok d in r) c.in-Ok-Kept.field-0-is) in
    (silent, (c.due_epoch.result, c.due_epoch.ensures, inr (due, (c.due.result, c.due.ensures.due, sym quiet))), tells_silent c.args.said.now)

pub returns-in-Ok-OtherIndex-clause-tests : goal.returns-in-Ok-OtherIndex-clause-tests
returns-in-Ok-OtherIndex-clause-tests g c =
    let due : c.due_epoch.result ≡ Some c.args.epoch = search rules in
    let quiet = ap shown_told (c.in-Ok-OtherIndex.is ∙ ap (λ (d : Due). let r : Result Due Refusal = Ok d in r) c.in-Ok-OtherIndex.field-0-is) in
    (silent, (c.due_epoch.result, c.due_epoch.ensures, inr (due, (c.due.result, c.due.ensures.due, sym quiet))), tells_silent c.args.said.now)

pub returns-in-Err-clause-tests : goal.returns-in-Err-clause-tests
returns-in-Err-clause-tests g c =
    let due : c.due_epoch.result ≡ Some c.args.epoch = search rules in
    (silent, (c.due_epoch.result, c.due_epoch.ensures, inr (due, (c.due.result, c.due.ensures.due, sym (ap shown_told c.in-Err.is)))), tells_silent c.args.said.now)
