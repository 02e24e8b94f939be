use Rattle.std.proofs.Common.{◌≡◌, Bool, Err, ◌||◌, ap, false, true, refl, rules, sym, ◌∙◌}
use Rattle.connections.specs.Histories.{course}
use Rattle.connections.proofs.Hearing.{stays_adds}
use Rattle.connections.proofs.Steps.{served, synced_by}
use Rattle.connections.proofs.Touring.{telling}
use Rattle.connections.proofs.slots.tell.Goals.{then-branch, else-branch}
use Rattle.connections.proofs.slots.tell.Goals as goal

pub returns-clause-happens : goal.returns-clause-happens
returns-clause-happens g c = λ acts known at time order here.
    let a = c.in_ok-tell.ensures.tells c.args.round.idle acts known at here in
    let stays = stays_adds c.args.place 0 acts a.0 a.1 in
    let not_due = c.in_ok-work.ensures.due a.0 c.args.place (stays.same_clock ∙ time) (stays.same_stop ∙ order)
    (λ unsynced. c.in_ok-tell.ensures.unsynced (synced_by c.args.round.is_synced false (sym at ∙ sym stays.same_stage ∙ unsynced))) (λ hearing. telling c.args.round.is_synced (sym at ∙ sym stays.same_stage ∙ hearing)) a.4.0 a.3 in
    (a.0, a.1, a.2, a.3, (served c.args.round.idle a.0 c.args.place (course a.0 c.args.place) c.tell.new.self a.3 a.4.0 not_due.1, λ busy. a.4.1 ∙ ap (λ (was : Bool). c.in_ok-tell.field-0 || was) busy ∙ elim c.if-branch.branch [ then-branch w ↦ let yes : c.in_ok-tell.field-0 ≡ true = search (rules, w.if-branch) in rw (yes, w.work-is) refl | else-branch w ↦ let no : c.in_ok-tell.field-0 ≡ false = search (rules, w.if-branch) in rw (no, w.work-is) refl ]))

pub returns-in_err-work-clause-happens : goal.returns-in_err-work-clause-happens
returns-in_err-work-clause-happens g c = λ acts known at time order here.
    let a = c.in_ok-tell.ensures.tells c.args.round.idle acts known at here in
    let stays = stays_adds c.args.place 0 acts a.0 a.1 in
    let due = c.in_err-work.ensures.due a.0 c.args.place (stays.same_clock ∙ time) (stays.same_stop ∙ order)
    (λ unsynced. c.in_ok-tell.ensures.unsynced (synced_by c.args.round.is_synced false (sym at ∙ sym stays.same_stage ∙ unsynced))) (λ hearing. telling c.args.round.is_synced (sym at ∙ sym stays.same_stage ∙ hearing)) a.4.0 a.3 in
    let passed : c.from_residual-in_err-work.result ≡ Err c.in_err-work.field-0.0 = search rules in
    (a.0, a.1, a.2, rw passed due.0, rw passed tt)
