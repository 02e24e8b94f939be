use Rattle.encoding.proofs.Fields.{counted_field}
use Rattle.encoding.proofs.laws.counted_are_read.Goals as goal

pub returns : goal.returns
returns c = counted_field
