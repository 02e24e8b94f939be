use Rattle.std.proofs.Common.{◌≡◌, ◌++◌, ◌∷◌, ℕ, List, rules}
use Rattle.memory.specs.Words.{HasNoSpace, IsSighting, IsNameWord}
use Rattle.memory.proofs.SaidLines.{final_two, no_final, no_final_text}
use Rattle.memory.proofs.reading.final_item.Goals as goal

pub returns-in_default : goal.returns-in_default
returns-in_default c =
    let alone : c.args.text.now ≡ c.first_part.result.0.now = search rules in
    let none : HasNoSpace c.args.text.now = rw alone c.first_part.ensures.front in
    no_final c.args.text.now (no_final_text c.args.text.now none)

pub returns-in_default-2 : goal.returns-in_default-2
returns-in_default-2 c =
    let parts : c.args.text.now ≡ c.first_part.result.0.now ++ 32 ∷ c.in_default-Some.behind.now = search rules in
    let none : (sighting : ℕ × List ℕ) → ¬ IsSighting c.in_default-Some.behind.now sighting = search rules in
    no_final c.args.text.now (λ seen is. none (seen.epoch, seen.reply) (final_two _ _ _ parts c.first_part.ensures.front seen is).1)

pub returns-in-None : goal.returns-in-None
returns-in-None c =
    let parts : c.args.text.now ≡ c.first_part.result.0.now ++ 32 ∷ c.in_default-Some.behind.now = search rules in
    let none : (name : List ℕ) → ¬ IsNameWord c.first_part.result.0.now name = search rules in
    no_final c.args.text.now (λ seen is. none seen.name (final_two _ _ _ parts c.first_part.ensures.front seen is).0)
