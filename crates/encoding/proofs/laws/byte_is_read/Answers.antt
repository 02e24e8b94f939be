use Rattle.encoding.proofs.Fields.{byte_field}
use Rattle.encoding.proofs.laws.byte_is_read.Goals as goal

pub returns : goal.returns
returns c = byte_field
