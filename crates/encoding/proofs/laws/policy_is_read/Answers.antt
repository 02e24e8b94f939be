use Rattle.encoding.proofs.Fields.{policy_field}
use Rattle.encoding.proofs.laws.policy_is_read.Goals as goal

pub returns : goal.returns
returns c = policy_field
