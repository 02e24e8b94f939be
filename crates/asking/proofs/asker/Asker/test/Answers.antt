use Rattle.std.proofs.Common.{◌≡◌, ◌∙◌, ℕ, List, subst, sym}
use Rattle.asking.specs.Exchanges.{ExchangesFrames}
use Rattle.asking.specs.FinalBindings.{NotesReply}
use Rattle.asking.proofs.Handed.{report_silent, told_both}
use Rattle.asking.proofs.Tested.{tests_none, tests_some}
use Rattle.asking.proofs.asker.Asker.test.Goals as goal

pub returns-in_default-2-clause-tests : goal.returns-in_default-2-clause-tests
returns-in_default-2-clause-tests g c =
    let due = rw c.in-Some.is at c.due_epoch.ensures in
    let gives = rw c.in_default-2.is at c.in_ok-found.ensures.gives in
    tests_none g.H.NodeHash.digest_of g.V.VufCheck.accepted (ExchangesFrames g.T.Write.contents g.T.Read.remaining) c.args.self.now c.args.said.now c.args.stream.now
    c.args.name.now c.in-Some.epoch gives.0 c.look_up.new.stream c.look_up.new.said due gives.1 gives.2

pub returns-clause-tests : goal.returns-clause-tests
returns-clause-tests g c =
    let due = rw c.in-Some.is at c.due_epoch.ensures in
    let gives = rw c.in-Some-2.is at c.in_ok-found.ensures.gives in
    let noted = c.in_ok-note.ensures.notes in
    let same : c.deref-2.result.now ≡ c.deref.result.now = c.deref-2.ensures.value ∙ sym c.deref.ensures.value in
    let quiet = report_silent c.new-now.result c.new-now.ensures.text c.new-now.ensures.status in
    tests_some g.H.NodeHash.digest_of g.V.VufCheck.accepted (ExchangesFrames g.T.Write.contents g.T.Read.remaining) c.args.self.now c.args.said.now c.args.stream.now
    c.args.name.now c.in-Some.epoch gives.0 c.look_up.new.stream c.new-now.result c.tell_due.new.said c.look_up.new.said c.join.new.self c.deref.result.now
    c.in_ok-kept.kept c.tell_due.new.client c.note.new.self noted.0 c.in_ok-note.ensures.client c.in_ok-note.ensures.monitors
    (subst (λ (b : List ℕ). NotesReply g.H.NodeHash.digest_of g.V.VufCheck.accepted c.tell_due.new.client.chain c.args.name.now b c.args.self.now.finals noted.0 c.note.new.self.finals) same noted.1)
    (λ told tells. told_both c.new-now.result c.tell_due.new.said c.note.new.said c.look_up.new.said c.join.new.self told noted.0 quiet tells noted.2 c.in_ok-join.ensures.tells)
    due gives.1 (gives.2.0, c.deref.ensures.value ∙ gives.2.1, gives.2.2) c.in_ok-kept.ensures.tells
