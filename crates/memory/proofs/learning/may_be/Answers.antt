use Rattle.std.proofs.Common.{◌≢◌, codes, rules, subst, sym}
use Rattle.memory.specs.Learning.{IsOfKind}
use Rattle.memory.specs.Lines.{IsLineOf}
use Rattle.memory.specs.declared.item.Item.{Item}
use Rattle.memory.specs.declared.kind.Kind.{Kind}
use Rattle.memory.proofs.SaidLines.{not_alarm}
use Rattle.memory.proofs.learning.may_be.Goals as goal

pub returns-in-Alarms : goal.returns-in-Alarms
returns-in-Alarms c = λ other.
    let differs : c.first_part.result.0.now ≢ codes "alarm" = search rules in
    subst (λ (kind : Kind). (item : Item) → IsLineOf c.args.line.now item → ¬ IsOfKind kind item) (sym c.in-Alarms.is)
    (not_alarm _ c.args.line.now c.first_part.result.0.now c.first_part.result.1 c.first_part.ensures.front c.first_part.ensures.parts differs)
