use Rattle.std.proofs.Common.{◌≡◌, ◌++◌, ◌∷◌, rules}
use Rattle.memory.proofs.SaidLines.{not_evidence}
use Rattle.memory.proofs.learning.is_one_word.Goals as goal

pub returns-in-Some : goal.returns-in-Some
returns-in-Some c = λ more.
    let parts : c.args.line.now ≡ c.first_part.result.0.now ++ 32 ∷ c.in-Some._behind.now = search rules in
    not_evidence c.args.line.now c.first_part.result.0.now c.in-Some._behind.now c.first_part.ensures.front parts
