use Rattle.std.proofs.Common.{arith}
use Rattle.nodehash.proofs.Counting.{after_digests-is}
use Rattle.nodehash.proofs.sha256_hash.counted.Goals as goal

pub returns : goal.returns
returns c = omega (arith, after_digests-is c.args.more c.args.count (omega arith), c.saturating_add.ensures)
