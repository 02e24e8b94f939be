use borrow.Author.Count.{below_none}
use Rattle.std.proofs.Common.{◌<◌, List, ℕ, length, arith}
use Rattle.prefixtree.specs.Paths.{agreeing}
use Rattle.prefixtree.proofs.Built.{cut-root}
use Rattle.prefixtree.proofs.Siblings.{agreeing-root}
use Rattle.prefixtree.proofs.walk.Walk.new.Goals as goal

pub invariant_of-result : goal.invariant_of-result
invariant_of-result g c =
    let i : List ℕ = c.args.index.now in
    let size = c.bytes.ensures.size in
    record {
      fits = omega arith;
      size = size;
      built = rw (cut-root i size) c.requires.built;
      items = rw (← c.requires.items) (agreeing-root g.H.NodeHash.digest_of c.args.tree.now.nonce i c.args.root.now size c.requires.built);
      more = below_none (λ n. 1 < length (agreeing i n c.args.tree.now.items));
    }
