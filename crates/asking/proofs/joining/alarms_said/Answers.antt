use Rattle.std.proofs.Common.{◌≡◌, ◌≢◌, ◌∙◌, ◌++◌, ℕ, Global, List, Vec, ap, rules, subst, sym}
use Rattle.memory.specs.Texts.{TellsAgain}
use Rattle.asking.specs.Reports.{worse}
use Rattle.asking.specs.declared.said.TheConstants.{CAUGHT}
use Rattle.asking.proofs.Recalling.{status_none, status_some}
use Rattle.asking.proofs.joining.alarms_said.Goals as goal

pub returns-then-count-eq0 : goal.returns-then-count-eq0
returns-then-count-eq0 c =
    let (added, text, tells) = c.in_ok-count.ensures.ok in
    let all : c.tell_again.new.text.items ≡ added = text ∙ ap (λ (xs : List ℕ). xs ++ added) c.new-said.ensures.text in
    let none : c.in_ok-count.count ≡ 0 = search rules in (
      c.in_ok-count.count,
      subst (λ (xs : List ℕ). TellsAgain c.args.name.now c.args.known.now.alarms xs c.in_ok-count.count) (sym all) tells,
      c.new-said.ensures.status ∙ sym (status_none CAUGHT c.in_ok-count.count none),
    )

pub returns : goal.returns
returns c =
    let (added, text, tells) = c.in_ok-count.ensures.ok in
    let all : c.raise.new.self.text.items ≡ added = ap (λ (v : Vec ℕ Global). v.items) c.raise.ensures.text ∙ text ∙ ap (λ (xs : List ℕ). xs ++ added) c.new-said.ensures.text in
    let some : c.in_ok-count.count ≢ 0 = search rules in (
      c.in_ok-count.count,
      subst (λ (xs : List ℕ). TellsAgain c.args.name.now c.args.known.now.alarms xs c.in_ok-count.count) (sym all) tells,
      c.raise.ensures.status ∙ ap (λ (n : ℕ). worse n CAUGHT) c.new-said.ensures.status ∙ sym (status_some CAUGHT c.in_ok-count.count some),
    )
