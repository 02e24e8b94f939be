use Rattle.encoding.proofs.Fields.{bytes_field}
use Rattle.encoding.proofs.laws.bytes_are_read.Goals as goal

pub returns : goal.returns
returns c = bytes_field
