use Rattle.memory.proofs.OneMemory.{one_memory}
use Rattle.memory.proofs.laws.text_is_one_memory.Goals as goal

pub returns : goal.returns
returns c = one_memory
