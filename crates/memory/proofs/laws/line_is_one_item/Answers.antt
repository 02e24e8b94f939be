use Rattle.memory.proofs.OneItem.{one_item}
use Rattle.memory.proofs.laws.line_is_one_item.Goals as goal

pub returns : goal.returns
returns c = one_item
