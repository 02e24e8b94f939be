use Rattle.encoding.proofs.BitLaws.{agreement_of_bits}
use Rattle.encoding.proofs.laws.agreement_of_bits.Goals as goal

pub returns : goal.returns
returns c = agreement_of_bits
