use Rattle.memory.specs.Texts.{memory_items}
use Rattle.memory.proofs.WholeLines.{whole-items}
use Rattle.memory.proofs.laws.memory_text_is_whole_lines.Goals as goal

pub returns : goal.returns
returns c = λ memory. whole-items (memory_items memory)
