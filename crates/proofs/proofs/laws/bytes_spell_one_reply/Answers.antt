use Rattle.proofs.proofs.Passing.{one_reply}
use Rattle.proofs.proofs.laws.bytes_spell_one_reply.Goals as goal

pub returns : goal.returns
returns c = one_reply
