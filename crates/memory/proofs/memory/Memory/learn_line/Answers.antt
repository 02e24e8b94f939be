use Rattle.std.proofs.Common.{inl, rules}
use Rattle.memory.specs.Learning.{IsOfKind}
use Rattle.memory.specs.Lines.{IsLineOf}
use Rattle.memory.specs.declared.item.Item.{Item}
use Rattle.memory.proofs.Learned.{nothing_learned, on_ok, other_kind}
use Rattle.memory.proofs.memory.Memory.learn_line.Goals as goal

pub returns-then-not-may_be-clause-ok : goal.returns-then-not-may_be-clause-ok
returns-then-not-may_be-clause-ok c = nothing_learned c.args.kind c.args.line.now c.args.self.now c.args.lines.now.items (c.may_be.ensures c.if-not-may_be.true)

pub returns-in_default-clause-ok : goal.returns-in_default-clause-ok
returns-in_default-clause-ok c =
    let none : (item : Item) → ¬ IsLineOf c.args.line.now item = search rules in
    nothing_learned c.args.kind c.args.line.now c.args.self.now c.args.lines.now.items (λ item is of. none item is)

pub returns-then-not-is_of_kind-clause-ok : goal.returns-then-not-is_of_kind-clause-ok
returns-then-not-is_of_kind-clause-ok c =
    let is : IsLineOf c.args.line.now c.in-Some.item = search rules in
    let not : ¬ IsOfKind c.args.kind c.in-Some.item = search rules in
    nothing_learned c.args.kind c.args.line.now c.args.self.now c.args.lines.now.items (other_kind c.args.kind c.args.line.now c.in-Some.item is not)

pub returns-clause-ok : goal.returns-clause-ok
returns-clause-ok c =
    let is : IsLineOf c.args.line.now c.in-Some.item = search rules in
    let of : IsOfKind c.args.kind c.in-Some.item = search rules in
    on_ok c.learn.result (λ learned. let (news, one, grown) = learned in (news, inl (c.in-Some.item, is, of, one), grown)) c.learn.ensures.ok
