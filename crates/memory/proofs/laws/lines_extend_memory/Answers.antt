use Rattle.memory.proofs.Taken.{unchanged-taken}
use Rattle.memory.proofs.WholeLines.{spells-more, whole-more}
use Rattle.memory.proofs.laws.lines_extend_memory.Goals as goal

pub returns-clause-spells : goal.returns-clause-spells
returns-clause-spells c = spells-more

pub returns-clause-whole : goal.returns-clause-whole
returns-clause-whole c = whole-more

pub returns-clause-none : goal.returns-clause-none
returns-clause-none c = unchanged-taken
