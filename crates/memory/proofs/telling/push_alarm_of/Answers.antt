use Rattle.std.proofs.Common.{◌≡◌, ◌∷◌, ◌++◌, [], inl, refl, sym, ◌∙◌, append_assoc, append-nil, rules}
use Rattle.memory.specs.Lines.{item_line}
use Rattle.memory.specs.declared.item.Item.TheVariants.{Alarm}
use Rattle.memory.proofs.telling.push_alarm_of.Goals as goal

pub returns-then-eq-clause-ok : goal.returns-then-eq-clause-ok
returns-then-eq-clause-ok c =
    let alarm = c.args.alarm.now in
    let line = item_line (Alarm alarm) in
    let named : alarm.name ≡ c.args.name.now = search rules in
    let grown : c.push_alarm.new.text.items ≡ c.args.text.now.items ++ (line ++ 10 ∷ []) =
    c.in_ok-push_alarm.ensures.ok ∙ append_assoc c.args.text.now.items line (10 ∷ []) in
    (line ++ 10 ∷ [], grown, (alarm ∷ [], inl (named, ([], refl, refl)), sym (append-nil (line ++ 10 ∷ [])), refl))
