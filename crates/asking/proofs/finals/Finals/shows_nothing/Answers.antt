use Rattle.std.proofs.Common.{◌≡◌, ◌∙◌, ℕ, List, None, Some, ap, inl, inr, rules, subst}
use Rattle.std.specs.Prelude.{Contains}
use Rattle.memory.specs.declared.final_seen.FinalSeen.{FinalSeen}
use Rattle.asking.specs.FinalBindings.{Finals, IsKeptFor}
use Rattle.asking.proofs.FinalsShown.{adds-none}
use Rattle.asking.proofs.finals.Finals.shows_nothing.Goals as goal

pub returns-then-contains : goal.returns-then-contains
returns-then-contains c = λ yes.
    let same : c.self.inside.changed.items ≡ c.args.self.now.changed = ap (λ (f : Finals). f.changed) c.self.view_is in
    let there : Contains c.self.inside.changed.items c.args.name.now = search rules in
    inl (subst (λ (ns : List (List ℕ)). Contains ns c.args.name.now) same there)

pub returns-in-Some : goal.returns-in-Some
returns-in-Some c = λ apart.
    let same : c.self.inside.changed.items ≡ c.args.self.now.changed = ap (λ (f : Finals). f.changed) c.self.view_is in
    let kept : c.deref-2.result.now ≡ c.args.self.now.seen = c.deref-2.ensures.value ∙ ap (λ (f : Finals). f.seen) c.self.view_is in
    let new : ¬ Contains c.self.inside.changed.items c.args.name.now = search rules in
    inr (
      subst (λ (ns : List (List ℕ)). ¬ Contains ns c.args.name.now) same new,
      (Some c.in-Some.kept.now, subst (λ (all : List FinalSeen). IsKeptFor c.args.name.now all (Some c.in-Some.kept.now)) kept c.in-Some.ensures, c.stay_apart.ensures apart),
    )

pub returns-in-None : goal.returns-in-None
returns-in-None c = λ quiet.
    let same : c.self.inside.changed.items ≡ c.args.self.now.changed = ap (λ (f : Finals). f.changed) c.self.view_is in
    let kept : c.deref-2.result.now ≡ c.args.self.now.seen = c.deref-2.ensures.value ∙ ap (λ (f : Finals). f.seen) c.self.view_is in
    let new : ¬ Contains c.self.inside.changed.items c.args.name.now = search rules in
    inr (
      subst (λ (ns : List (List ℕ)). ¬ Contains ns c.args.name.now) same new,
      (None, subst (λ (all : List FinalSeen). IsKeptFor c.args.name.now all None) kept c.in-None.ensures, adds-none c.states_final.result c.args.epoch c.args.reply.now c.states_final.ensures quiet),
    )
