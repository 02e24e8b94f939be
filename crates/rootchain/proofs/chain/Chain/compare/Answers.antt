use Rattle.rootchain.specs.SignedRoots.{IsSignedRoot}
use Rattle.rootchain.proofs.Agreement.{collided_where_apart, compared_evidence, compared_roots, equal_where_agreed, evidence_is}
use Rattle.rootchain.proofs.chain.Chain.compare.Goals as goal

pub returns-clause-equal : goal.returns-clause-equal
returns-clause-equal g c =
    let answer = c.compare_chains.ensures in
    equal_where_agreed g.H.NodeHash.digest_of g.S.Verifier.verified c.args.one.now c.args.other.now answer.one answer.other c.compare_chains.result answer.compared

pub returns-clause-evidence : goal.returns-clause-evidence
returns-clause-evidence g c =
    let answer = c.compare_chains.ensures in
    compared_evidence g.H.NodeHash.digest_of g.S.Verifier.verified c.args.one.now c.args.other.now answer.one answer.other c.requires c.compare_chains.result answer.compared

pub returns-clause-roots : goal.returns-clause-roots
returns-clause-roots g c =
    let answer = c.compare_chains.ensures in
    compared_roots g.H.NodeHash.digest_of g.S.Verifier.verified c.args.one.now c.args.other.now answer.one answer.other c.compare_chains.result answer.compared

pub returns-clause-form : goal.returns-clause-form
returns-clause-form g c all all' =
    let answer = c.compare_chains.ensures in
    evidence_is IsSignedRoot c.args.one.now c.args.other.now all all' c.compare_chains.result
    (compared_roots g.H.NodeHash.digest_of g.S.Verifier.verified c.args.one.now c.args.other.now answer.one answer.other c.compare_chains.result answer.compared)

pub returns-clause-collided : goal.returns-clause-collided
returns-clause-collided g c last epoch shared less common differ =
    let answer = c.compare_chains.ensures in
    collided_where_apart g.H.NodeHash.digest_of g.S.Verifier.verified c.args.one.now c.args.other.now answer.one answer.other last epoch shared less common differ c.compare_chains.result answer.compared
