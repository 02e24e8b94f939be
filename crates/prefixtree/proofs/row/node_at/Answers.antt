use Rattle.std.proofs.Common.{refl}
use Rattle.std.specs.Vec.Iter.{into_iter_items}
use Rattle.prefixtree.proofs.RowsMade.{kept-made}
use Rattle.prefixtree.proofs.row.node_at.Goals as goal

pub returns-in-Kept-clause-made : goal.returns-in-Kept-clause-made
returns-in-Kept-clause-made c = λ outcomes nodes made.
    kept-made c.args.outcome c.in-Kept.node c.in-Kept.node c.args.digests.now c.args.used (into_iter_items c.args.lower.now) outcomes nodes c.in-Kept.is
    (refl, λ of nonce prefix level built. built) made
