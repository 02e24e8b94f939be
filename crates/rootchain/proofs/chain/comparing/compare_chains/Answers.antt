use Rattle.rootchain.proofs.Agreement.{compared_above, compared_below, told_holds}
use Rattle.rootchain.proofs.chain.comparing.compare_chains.Goals as goal

pub returns-then-head-other_first-clause-compared : goal.returns-then-head-other_first-clause-compared
returns-then-head-other_first-clause-compared g c =
    compared_below g.H.NodeHash.digest_of g.S.Verifier.verified c.args.one.now c.args.other.now c.head-head.ensures.chain c.head-other_head.ensures.chain c.head-head.result.now c.first-other_first.result.now c.meet.result
    (c.head-head.ensures.head, c.first-other_first.ensures, c.if-head-other_first.true) c.meet.ensures.told

pub returns-then-head-other_first-clause-collision : goal.returns-then-head-other_first-clause-collision
returns-then-head-other_first-clause-collision g c =
    rw c.meet.ensures.told.2 (told_holds g.H.NodeHash.digest_of c.args.one.now c.args.other.now c.meet.ensures.told.0)

pub returns-then-other_head-first-clause-compared : goal.returns-then-other_head-first-clause-compared
returns-then-other_head-first-clause-compared g c =
    compared_above g.H.NodeHash.digest_of g.S.Verifier.verified c.args.one.now c.args.other.now c.head-head.ensures.chain c.head-other_head.ensures.chain c.head-other_head.result.now c.first-first.result.now c.meet-then-other_head-first.result
    (c.head-other_head.ensures.head, c.first-first.ensures, c.if-other_head-first.true) c.meet-then-other_head-first.ensures.told

pub returns-then-other_head-first-clause-collision : goal.returns-then-other_head-first-clause-collision
returns-then-other_head-first-clause-collision g c =
    rw c.meet-then-other_head-first.ensures.told.2 (told_holds g.H.NodeHash.digest_of c.args.one.now c.args.other.now c.meet-then-other_head-first.ensures.told.0)
