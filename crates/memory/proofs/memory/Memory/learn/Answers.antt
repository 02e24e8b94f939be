use Rattle.std.proofs.Common.{◌≢◌, ◌∙◌, ℕ, List, [], ◌∷◌, ◌++◌, ap, append_assoc, inr, refl, rules, sym}
use Rattle.memory.specs.Lines.{item_line}
use Rattle.memory.proofs.Learned.{one_text}
use Rattle.memory.proofs.Taken.{learned-taken}
use Rattle.memory.proofs.memory.Memory.learn.Goals as goal

pub returns-else-not-branch-clause-ok : goal.returns-else-not-branch-clause-ok
returns-else-not-branch-clause-ok c =
    let differs : c.take.new.self ≢ c.args.self.now = search rules in
    let lines = c.args.lines.now.items in
    let line = item_line c.args.item in
    let grown = c.in_ok-write.ensures.ok ∙ append_assoc lines line (10 ∷ []) ∙ ap (λ (t : List ℕ). lines ++ t) (sym (one_text c.args.item)) in
    (c.args.item ∷ [], (c.in_ok-take.ensures.takes.0, inr (differs, refl)), grown)

pub returns-else-not-branch-clause-takes : goal.returns-else-not-branch-clause-takes
returns-else-not-branch-clause-takes c = λ sound.
    let (news, learns, grown) = returns-else-not-branch-clause-ok c in
    (news, learned-taken c.args.item c.args.self.now c.take.new.self news sound learns, grown)
