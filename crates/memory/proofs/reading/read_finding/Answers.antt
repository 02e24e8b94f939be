use Rattle.std.proofs.Common.{◌≡◌, ◌++◌, ◌∷◌, Option, rules}
use Rattle.encoding.specs.declared.bound_key.BoundKey.{BoundKey}
use Rattle.memory.specs.Words.{HasNoSpace, IsFoundText}
use Rattle.memory.proofs.SaidLines.{finding_two, no_finding}
use Rattle.memory.proofs.reading.read_finding.Goals as goal

pub returns-in_default : goal.returns-in_default
returns-in_default c =
    let alone : c.args.text.now ≡ c.first_part.result.0.now = search rules in
    let none : HasNoSpace c.args.text.now = rw alone c.first_part.ensures.front in
    no_finding c.args.text.now none

pub returns-in_default-read_number : goal.returns-in_default-read_number
returns-in_default-read_number c =
    let parts : c.args.text.now ≡ c.first_part.result.0.now ++ 32 ∷ c.in_default-Some.behind.now = search rules in
    λ finding is. c.in_default-read_number.ensures finding.0 (finding_two _ _ _ parts c.first_part.ensures.front finding is).0

pub returns-in-None : goal.returns-in-None
returns-in-None c =
    let parts : c.args.text.now ≡ c.first_part.result.0.now ++ 32 ∷ c.in_default-Some.behind.now = search rules in
    let none : (found : Option BoundKey) → ¬ IsFoundText c.in_default-Some.behind.now found = search rules in
    λ finding is. none finding.1 (finding_two _ _ _ parts c.first_part.ensures.front finding is).1
