use Rattle.std.proofs.Common.{rules}
use Rattle.coniks.proofs.Framing.{nonce-said}
use Rattle.coniks.proofs.asking.asks_nonce.Goals as goal

pub returns-else-is_empty : goal.returns-else-is_empty
returns-else-is_empty c = nonce-said c.args.nonce.now _ (search rules) (search rules)
