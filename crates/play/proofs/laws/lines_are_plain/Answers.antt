use Rattle.play.proofs.Plain.{always-plain, nothing-refused}
use Rattle.play.proofs.laws.lines_are_plain.Goals as goal

pub returns-clause-always : goal.returns-clause-always
returns-clause-always c = always-plain

pub returns-clause-apart : goal.returns-clause-apart
returns-clause-apart c = nothing-refused
