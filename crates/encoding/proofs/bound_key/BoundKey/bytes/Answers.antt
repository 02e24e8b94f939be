use Rattle.encoding.proofs.Policies.{one_byte}
use Rattle.encoding.proofs.bound_key.BoundKey.bytes.Goals as goal

pub returns-clause-policy : goal.returns-clause-policy
returns-clause-policy c = one_byte c.args.self.now.policy
