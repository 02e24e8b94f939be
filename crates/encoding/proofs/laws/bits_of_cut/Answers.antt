use Rattle.encoding.proofs.BitLaws.{bits_of_cut}
use Rattle.encoding.proofs.laws.bits_of_cut.Goals as goal

pub returns : goal.returns
returns c = bits_of_cut
