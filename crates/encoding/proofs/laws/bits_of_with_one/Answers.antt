use Rattle.encoding.proofs.BitLaws.{bits_of_with_one}
use Rattle.encoding.proofs.laws.bits_of_with_one.Goals as goal

pub returns : goal.returns
returns c = bits_of_with_one
