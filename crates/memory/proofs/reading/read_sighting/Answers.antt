use Rattle.std.proofs.Common.{◌≡◌, ◌++◌, ◌∷◌, ℕ, List, rules}
use Rattle.memory.specs.Words.{HasNoSpace, IsReplyWord}
use Rattle.memory.proofs.SaidLines.{no_sighting, sighting_two}
use Rattle.memory.proofs.reading.read_sighting.Goals as goal

pub returns-in_default : goal.returns-in_default
returns-in_default c =
    let alone : c.args.text.now ≡ c.first_part.result.0.now = search rules in
    let none : HasNoSpace c.args.text.now = rw alone c.first_part.ensures.front in
    no_sighting c.args.text.now none

pub returns-in_default-read_number : goal.returns-in_default-read_number
returns-in_default-read_number c =
    let parts : c.args.text.now ≡ c.first_part.result.0.now ++ 32 ∷ c.in_default-Some.behind.now = search rules in
    λ sighting is. c.in_default-read_number.ensures sighting.0 (sighting_two _ _ _ parts c.first_part.ensures.front sighting is).0

pub returns-in-None : goal.returns-in-None
returns-in-None c =
    let parts : c.args.text.now ≡ c.first_part.result.0.now ++ 32 ∷ c.in_default-Some.behind.now = search rules in
    let none : (reply : List ℕ) → ¬ IsReplyWord c.in_default-Some.behind.now reply = search rules in
    λ sighting is. none sighting.1 (sighting_two _ _ _ parts c.first_part.ensures.front sighting is).1
