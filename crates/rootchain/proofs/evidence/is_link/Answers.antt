use Rattle.rootchain.proofs.Places.{not_named}
use Rattle.rootchain.proofs.evidence.is_link.Goals as goal

pub returns-then-other-one-clause-value : goal.returns-then-other-one-clause-value
returns-then-other-one-clause-value g c =
    not_named g.H.NodeHash.digest_of c.args.one.now c.args.other.now c.names.result c.names.ensures.value c.if-other-one.true
