use Rattle.encoding.proofs.Fields.{numbers_field}
use Rattle.encoding.proofs.laws.numbers_are_read.Goals as goal

pub returns : goal.returns
returns c = numbers_field
