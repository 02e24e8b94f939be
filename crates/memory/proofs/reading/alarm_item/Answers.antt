use Rattle.std.proofs.Common.{◌≡◌, ◌++◌, ◌∷◌, ℕ, List, Option, rules}
use Rattle.encoding.specs.declared.bound_key.BoundKey.{BoundKey}
use Rattle.memory.specs.Words.{HasNoSpace, IsFinding, IsNameWord}
use Rattle.memory.proofs.SaidLines.{alarm_two, no_alarm, no_alarm_text}
use Rattle.memory.proofs.reading.alarm_item.Goals as goal

pub returns-in_default : goal.returns-in_default
returns-in_default c =
    let alone : c.args.text.now ≡ c.first_part.result.0.now = search rules in
    let none : HasNoSpace c.args.text.now = rw alone c.first_part.ensures.front in
    no_alarm c.args.text.now (no_alarm_text c.args.text.now none)

pub returns-in_default-2 : goal.returns-in_default-2
returns-in_default-2 c =
    let parts : c.args.text.now ≡ c.first_part.result.0.now ++ 32 ∷ c.in_default-Some.behind.now = search rules in
    let none : (finding : ℕ × Option BoundKey) → ¬ IsFinding c.in_default-Some.behind.now finding = search rules in
    no_alarm c.args.text.now (λ alarm is. none (alarm.epoch, alarm.found) (alarm_two _ _ _ parts c.first_part.ensures.front alarm is).1)

pub returns-in-None : goal.returns-in-None
returns-in-None c =
    let parts : c.args.text.now ≡ c.first_part.result.0.now ++ 32 ∷ c.in_default-Some.behind.now = search rules in
    let none : (name : List ℕ) → ¬ IsNameWord c.first_part.result.0.now name = search rules in
    no_alarm c.args.text.now (λ alarm is. none alarm.name (alarm_two _ _ _ parts c.first_part.ensures.front alarm is).0)
