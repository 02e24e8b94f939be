use Rattle.proofs.proofs.Passing.{nothing_left}
use Rattle.proofs.proofs.laws.no_spelling_begins_another.Goals as goal

pub returns : goal.returns
returns c = nothing_left
