use Rattle.std.proofs.Common.{◌∙◌, ap}
use Rattle.prefixtree.proofs.Ways.{folded-leads}
use Rattle.prefixtree.proofs.way.leads.Goals as goal

pub returns-clause-way : goal.returns-clause-way
returns-clause-way g c =
    let hash = g.H.NodeHash.digest_of in
    let fold = c.way_is_fold.ensures hash c.args.root.now c.args.index.now c.args.end c.args.siblings.now in
    folded-leads hash _ _ _ _ _ _ fold (c.digest.ensures.value ∙ ap hash (c.bytes.ensures.value ∙ c.climb-top.ensures.value)) c.eq.ensures
