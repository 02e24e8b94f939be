use Rattle.std.proofs.Common.{◌≡◌, ◌++◌, ◌∷◌, ◌∙◌, ◌<◌, ap, length, rules}
use Rattle.textio.specs.Lines.{lines_of}
use Rattle.memory.proofs.Recalled.{lines-last, lines-one}
use Rattle.memory.proofs.recalling.first_line.Goals as goal

pub returns-in-Some-clause-lines : goal.returns-in-Some-clause-lines
returns-in-Some-clause-lines c =
    let parts : c.args.text.now ≡ c.first_part.result.0.now ++ 10 ∷ c.in-Some.behind.now = search rules in
    ap lines_of parts ∙ lines-one c.first_part.result.0.now c.in-Some.behind.now c.first_part.ensures.front

pub returns-in-None-clause-lines : goal.returns-in-None-clause-lines
returns-in-None-clause-lines c =
    let alone : c.args.text.now ≡ c.first_part.result.0.now = search rules in
    let some : 0 < length c.first_part.result.0.now = rw alone at c.requires in
    ap lines_of alone ∙ lines-last c.first_part.result.0.now c.first_part.ensures.front some
