use Rattle.memory.proofs.Recalled.{spells-memory}
use Rattle.memory.proofs.laws.text_spells_memory.Goals as goal

pub returns : goal.returns
returns c = spells-memory
