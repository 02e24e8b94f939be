use Rattle.coniks.proofs.Framing.{policy-read, policy-said}
use Rattle.coniks.proofs.asking.asks_policy.Goals as goal

pub returns-else-policy-eq0 : goal.returns-else-policy-eq0
returns-else-policy-eq0 c = policy-said c.args.policy c.is_ok.result (policy-read c.args.policy c.new.result c.new.ensures c.is_ok.result c.is_ok.ensures.value) c.if-policy-eq0.false
