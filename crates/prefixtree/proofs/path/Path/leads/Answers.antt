use Rattle.prefixtree.specs.Paths.{end_bytes}
use Rattle.std.proofs.Common.{length}
use Rattle.prefixtree.proofs.Ways.{folded-leads}
use Rattle.prefixtree.proofs.path.Path.leads.Goals as goal

pub returns-clause-way : goal.returns-clause-way
returns-clause-way g c =
    let path = c.args.self.now in
    let siblings = path.siblings.items in
    let end = end_bytes c.args.nonce.now c.args.index.now (length siblings) path.end in
    let fold = c.way_is_fold.ensures g.H.NodeHash.digest_of c.args.root.now c.args.index.now end siblings in
    folded-leads _ _ _ _ _ _ _ fold c.root.ensures.value c.eq.ensures
