use Rattle.std.proofs.Common.{◌≡◌, ◌++◌, ◌∷◌, ℕ, List, rules}
use Rattle.memory.specs.Words.{HasNoSpace, IsNameWord, IsSpan}
use Rattle.memory.proofs.SaidLines.{mark_two, no_mark, no_mark_text}
use Rattle.memory.proofs.reading.mark_item.Goals as goal

pub returns-in_default : goal.returns-in_default
returns-in_default c =
    let alone : c.args.text.now ≡ c.first_part.result.0.now = search rules in
    let none : HasNoSpace c.args.text.now = rw alone c.first_part.ensures.front in
    no_mark c.args.text.now (no_mark_text c.args.text.now none)

pub returns-in_default-read_span : goal.returns-in_default-read_span
returns-in_default-read_span c =
    let parts : c.args.text.now ≡ c.first_part.result.0.now ++ 32 ∷ c.in_default-Some.behind.now = search rules in
    let none : (span : ℕ × ℕ) → ¬ IsSpan c.in_default-Some.behind.now span = search rules in
    no_mark c.args.text.now (λ mark is. none (mark.since, mark.epoch) (mark_two _ _ _ parts c.first_part.ensures.front mark is).1)

pub returns-in-None : goal.returns-in-None
returns-in-None c =
    let parts : c.args.text.now ≡ c.first_part.result.0.now ++ 32 ∷ c.in_default-Some.behind.now = search rules in
    let none : (name : List ℕ) → ¬ IsNameWord c.first_part.result.0.now name = search rules in
    no_mark c.args.text.now (λ mark is. none mark.name (mark_two _ _ _ parts c.first_part.ensures.front mark is).0)
