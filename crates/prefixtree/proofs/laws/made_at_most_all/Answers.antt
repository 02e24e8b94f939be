use Rattle.prefixtree.proofs.MadeCounts.{made-most}
use Rattle.prefixtree.proofs.laws.made_at_most_all.Goals as goal

pub returns : goal.returns
returns c items changes old new = made-most items changes old new
