use Rattle.std.proofs.Common.{rules}
use Rattle.std.proofs.Math.Nat.{le-max_left, le-max_right}
use Rattle.rootchain.proofs.Chains.{ascend-linked}
use Rattle.rootchain.proofs.Compared.{cleared_ends, collided_at, diverged_holds, one_of_max, one_of_min, shared_given, unshared_given}
use Rattle.rootchain.proofs.chain.comparing.compare_within.Goals as goal

pub last_places-requires-clause-cleared : goal.last_places-requires-clause-cleared
last_places-requires-clause-cleared g c =
    cleared_ends c.args.one.now c.args.other.now (ascend-linked g.H.NodeHash.digest_of _ c.roots-ones.ensures.chain.linked) (ascend-linked g.H.NodeHash.digest_of _ c.roots-others.ensures.chain.linked) c.roots-ones.result.now c.roots-others.result.now c.roots-ones.ensures.value c.roots-others.ensures.value
    c.head.result.now c.head-2.result.now c.min-end.result _ _ c.head.ensures.head c.head-2.ensures.head (one_of_min _ _ c.min-end.result c.min-end.ensures) c.not_after.ensures.point c.not_after-2.ensures.point

pub returns-in_default-clause-compared : goal.returns-in_default-clause-compared
returns-in_default-clause-compared g c =
    unshared_given c.args.one.now c.args.other.now (ascend-linked g.H.NodeHash.digest_of _ c.roots-ones.ensures.chain.linked) (ascend-linked g.H.NodeHash.digest_of _ c.roots-others.ensures.chain.linked) c.roots-ones.result.now c.roots-others.result.now c.roots-ones.ensures.value c.roots-others.ensures.value
    c.first.result.now c.first-2.result.now c.max-start.result c.not_before.result c.not_before-in_default.result c.first.ensures c.first-2.ensures
    (rw c.max-start.ensures (le-max_left _ _)) (rw c.max-start.ensures (le-max_right _ _)) (one_of_max _ _ c.max-start.result c.max-start.ensures)
    c.not_before.ensures.point c.not_before-in_default.ensures.point (search rules) c.diverge.result c.diverge.ensures

pub returns-in_default-clause-collided : goal.returns-in_default-clause-collided
returns-in_default-clause-collided g c =
    diverged_holds g.H.NodeHash.digest_of c.args.one.now c.args.other.now c.roots-ones.result.now c.roots-others.result.now _ _ c.diverge.result c.diverge.ensures

pub returns-in-None-clause-compared : goal.returns-in-None-clause-compared
returns-in-None-clause-compared g c =
    shared_given c.args.one.now c.args.other.now (ascend-linked g.H.NodeHash.digest_of _ c.roots-ones.ensures.chain.linked) (ascend-linked g.H.NodeHash.digest_of _ c.roots-others.ensures.chain.linked) c.roots-ones.result.now c.roots-others.result.now c.roots-ones.ensures.value c.roots-others.ensures.value
    c.in-Some.i c.in-Some.j c.in-Some.ensures.some c.in-None.ensures.none c.diverge-in-None.result c.diverge-in-None.ensures

pub returns-in-None-clause-collided : goal.returns-in-None-clause-collided
returns-in-None-clause-collided g c =
    diverged_holds g.H.NodeHash.digest_of c.args.one.now c.args.other.now c.roots-ones.result.now c.roots-others.result.now _ _ c.diverge-in-None.result c.diverge-in-None.ensures

pub returns-in-Some-apart_below-clause-compared : goal.returns-in-Some-apart_below-clause-compared
returns-in-Some-apart_below-clause-compared g c =
    (collided_at g.H.NodeHash.digest_of g.S.Verifier.verified c.args.one.now c.args.other.now c.roots-ones.ensures.chain c.roots-others.ensures.chain
    c.roots-ones.result.now c.roots-others.result.now c.roots-ones.ensures.value c.roots-others.ensures.value c.in-Some.i c.in-Some.j c.in-Some-apart_below.k c.in-Some-apart_below.l
    c.in-Some.ensures.some c.in-Some-apart_below.ensures.some c.index-ones-k.result c.index-others-l.result c.index-ones-k.is c.index-others-l.is c.text.result c.text-in-Some-apart_below.result
    c.text.ensures.value c.text-in-Some-apart_below.ensures.value c.text.ensures.sized c.text-in-Some-apart_below.ensures.sized).0

pub returns-in-Some-apart_below-clause-collided : goal.returns-in-Some-apart_below-clause-collided
returns-in-Some-apart_below-clause-collided g c =
    (collided_at g.H.NodeHash.digest_of g.S.Verifier.verified c.args.one.now c.args.other.now c.roots-ones.ensures.chain c.roots-others.ensures.chain
    c.roots-ones.result.now c.roots-others.result.now c.roots-ones.ensures.value c.roots-others.ensures.value c.in-Some.i c.in-Some.j c.in-Some-apart_below.k c.in-Some-apart_below.l
    c.in-Some.ensures.some c.in-Some-apart_below.ensures.some c.index-ones-k.result c.index-others-l.result c.index-ones-k.is c.index-others-l.is c.text.result c.text-in-Some-apart_below.result
    c.text.ensures.value c.text-in-Some-apart_below.ensures.value c.text.ensures.sized c.text-in-Some-apart_below.ensures.sized).1
