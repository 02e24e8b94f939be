use Rattle.asking.proofs.FinalsShown.{shown-first, shown-second}
use Rattle.asking.proofs.finals.shown.Goals as goal

pub returns-in-Some : goal.returns-in-Some
returns-in-Some g c =
    shown-first g.H.NodeHash.digest_of g.V.VufCheck.accepted c.args.chain.now c.args.one.now c.args.other.now c.in-Some.evidence c.in-Some.ensures

pub returns-in-None : goal.returns-in-None
returns-in-None g c =
    shown-second g.H.NodeHash.digest_of g.V.VufCheck.accepted c.args.chain.now c.args.one.now c.args.other.now c.change-in-None.result c.in-None.ensures c.change-in-None.ensures
