use Rattle.std.proofs.Common.{◌≡◌, ◌∙◌, ℕ, List, None, Some, ap, rules, subst}
use Rattle.std.specs.Prelude.{Contains}
use Rattle.memory.specs.declared.final_seen.FinalSeen.{FinalSeen}
use Rattle.asking.specs.FinalBindings.{Finals, IsKeptFor}
use Rattle.asking.proofs.FinalsNoted.{noted-before, noted-change, noted-first, noted-same}
use Rattle.asking.proofs.finals.Finals.note_seen.Goals as goal

pub returns-then-contains-clause-notes : goal.returns-then-contains-clause-notes
returns-then-contains-clause-notes g c =
    let same : c.self.inside.changed.items ≡ c.args.self.now.changed = ap (λ (f : Finals). f.changed) c.self.view_is in
    let there : Contains c.self.inside.changed.items c.args.seen.name = search rules in
    noted-before g.H.NodeHash.digest_of g.V.VufCheck.accepted c.args.chain.now c.args.seen c.args.self.now c.args.said.now (subst (λ (ns : List (List ℕ)). Contains ns c.args.seen.name) same there)

pub returns-in_default-clause-notes : goal.returns-in_default-clause-notes
returns-in_default-clause-notes g c =
    let same : c.self.inside.changed.items ≡ c.args.self.now.changed = ap (λ (f : Finals). f.changed) c.self.view_is in
    let kept : c.deref-2.result.now ≡ c.args.self.now.seen = c.deref-2.ensures.value ∙ ap (λ (f : Finals). f.seen) c.self.view_is in
    let new : ¬ Contains c.self.inside.changed.items c.args.seen.name = search rules in
    noted-first g.H.NodeHash.digest_of g.V.VufCheck.accepted c.args.chain.now c.keep_first.result c.args.seen c.args.self.now c.keep_first.new.self c.args.said.now
    (subst (λ (ns : List (List ℕ)). ¬ Contains ns c.args.seen.name) same new)
    (subst (λ (all : List FinalSeen). IsKeptFor c.args.seen.name all None) kept c.in_default.ensures) c.keep_first.ensures.keeps

pub returns-in_default-shown-clause-notes : goal.returns-in_default-shown-clause-notes
returns-in_default-shown-clause-notes g c =
    let same : c.self.inside.changed.items ≡ c.args.self.now.changed = ap (λ (f : Finals). f.changed) c.self.view_is in
    let kept : c.deref-2.result.now ≡ c.args.self.now.seen = c.deref-2.ensures.value ∙ ap (λ (f : Finals). f.seen) c.self.view_is in
    let new : ¬ Contains c.self.inside.changed.items c.args.seen.name = search rules in
    noted-same g.H.NodeHash.digest_of g.V.VufCheck.accepted c.args.chain.now c.args.seen c.in-Some.kept.now c.args.self.now c.args.said.now
    (subst (λ (ns : List (List ℕ)). ¬ Contains ns c.args.seen.name) same new)
    (subst (λ (all : List FinalSeen). IsKeptFor c.args.seen.name all (Some c.in-Some.kept.now)) kept c.in-Some.ensures) c.in_default-shown.ensures

pub returns-clause-notes : goal.returns-clause-notes
returns-clause-notes g c =
    let same : c.self.inside.changed.items ≡ c.args.self.now.changed = ap (λ (f : Finals). f.changed) c.self.view_is in
    let kept : c.deref-2.result.now ≡ c.args.self.now.seen = c.deref-2.ensures.value ∙ ap (λ (f : Finals). f.seen) c.self.view_is in
    let new : ¬ Contains c.self.inside.changed.items c.args.seen.name = search rules in
    noted-change g.H.NodeHash.digest_of g.V.VufCheck.accepted c.args.chain.now c.tell.result c.args.seen c.in-Some.kept.now c.in-Some-shown.evidence c.args.self.now c.tell.new.self c.args.said.now c.tell.new.said
    (subst (λ (ns : List (List ℕ)). ¬ Contains ns c.args.seen.name) same new)
    (subst (λ (all : List FinalSeen). IsKeptFor c.args.seen.name all (Some c.in-Some.kept.now)) kept c.in-Some.ensures) c.in-Some-shown.ensures
    c.tell.ensures.tells
