use Rattle.std.proofs.Common.{replicate}
use Rattle.prefixtree.proofs.Halves.{under-root}
use Rattle.prefixtree.proofs.tree.Tree.renew_with_all.Goals as goal

pub grow-requires-clause-place : goal.grow-requires-clause-place
grow-requires-clause-place g c = rw c.new-root.ensures (record {
  under = under-root c.args.changes.now c.requires;
  stands = (c.self.inside.nonce, c.in_ok-share.ensures.built g.H.NodeHash.digest_of c.self.inside.nonce (replicate 32 0) 0 c.self.invariant);
})
