use Rattle.std.proofs.Common.{◌≡◌, ◌≢◌, ℕ, [], List, All, Contains, append-nil, inl, inr, refl, rules, subst, sym}
use Rattle.memory.specs.Learning.{LearnsOne}
use Rattle.memory.specs.declared.item.Item.TheVariants.{Watched}
use Rattle.memory.specs.declared.mark.Mark.{Mark}
use Rattle.memory.proofs.Learned.{on_ok}
use Rattle.memory.proofs.memory.Memory.begin_one.Goals as goal

pub returns-then-has_mark-clause-ok : goal.returns-then-has_mark-clause-ok
returns-then-has_mark-clause-ok g c =
    let there : (mark : Mark) × Contains c.args.self.now.marks mark × (mark.name ≡ c.args.monitor.now.name) = search rules in
    ([], inr (there, refl, refl), sym (append-nil c.args.lines.now.items))

pub returns-clause-ok : goal.returns-clause-ok
returns-clause-ok g c =
    let none : All (λ (mark : Mark). mark.name ≢ c.args.monitor.now.name) c.args.self.now.marks = search rules in
    let epoch = c.begins_behind-epoch.result in
    let name : c.copied-name.result ≡ c.args.monitor.now.name = search rules in
    on_ok c.learn.result (λ learned. let (news, one, grown) = learned in
    let named = subst (λ (n : List ℕ). LearnsOne (Watched (record { name = n; since = epoch; epoch = epoch })) c.args.self.now news c.learn.new.self) name one in
    (news, inl (none, (epoch, c.begins_behind-epoch.ensures, named)), grown)) c.learn.ensures.ok
