use Rattle.std.proofs.Common.{◌≡◌, ◌≢◌, ◌∙◌, ◌++◌, ℕ, Global, List, Vec, ap, length, map, rules, sym}
use Rattle.memory.specs.Texts.{items_text}
use Rattle.memory.specs.declared.item.Item.TheVariants.{Evidence}
use Rattle.asking.specs.Recalled.{status_of}
use Rattle.asking.specs.Reports.{worse}
use Rattle.asking.specs.declared.said.TheConstants.{CAUGHT}
use Rattle.asking.proofs.Recalling.{said_is, status_none, status_some}
use Rattle.runs.proofs.run.evidence_said.Goals as goal

pub returns-then-is_empty : goal.returns-then-is_empty
returns-then-is_empty c =
    let none : length c.args.known.now.evidence ≡ 0 = search rules in
    said_is (record { text = c.tell_evidence.new.text; words = c.new-said.result.words; status = c.new-said.result.status }) (items_text (map Evidence c.args.known.now.evidence)) (status_of CAUGHT (length c.args.known.now.evidence))
    (c.in_ok-tell_evidence.ensures.ok ∙ ap (λ (xs : List ℕ). xs ++ items_text (map Evidence c.args.known.now.evidence)) c.new-said.ensures.text)
    (c.new-said.ensures.status ∙ sym (status_none CAUGHT (length c.args.known.now.evidence) none))

pub returns : goal.returns
returns c =
    let some : length c.args.known.now.evidence ≢ 0 = search rules in
    said_is c.raise.new.self (items_text (map Evidence c.args.known.now.evidence)) (status_of CAUGHT (length c.args.known.now.evidence))
    (ap (λ (v : Vec ℕ Global). v.items) c.raise.ensures.text ∙ c.in_ok-tell_evidence.ensures.ok ∙ ap (λ (xs : List ℕ). xs ++ items_text (map Evidence c.args.known.now.evidence)) c.new-said.ensures.text)
    (c.raise.ensures.status ∙ ap (λ (n : ℕ). worse n CAUGHT) c.new-said.ensures.status ∙ sym (status_some CAUGHT (length c.args.known.now.evidence) some))
