use Rattle.std.proofs.Common.{length, arith}
use Rattle.nodehash.proofs.Counting.{after_digests-most}
use Rattle.prefixtree.proofs.row.digests_of_texts.Goals as goal

pub returns-clause-work : goal.returns-clause-work
returns-clause-work g c = omega (arith, c.digest_all.ensures.count, after_digests-most (length c.args.texts.now) (g.H.NodeHash.digests c.args.hash.now))
