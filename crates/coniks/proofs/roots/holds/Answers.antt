use Rattle.coniks.proofs.Standing.{stand-so}
use Rattle.coniks.proofs.roots.holds.Goals as goal

pub returns : goal.returns
returns g c = stand-so g.H.NodeHash.digest_of _ c.args.evidence.now c.holds.result c.holds.ensures.value
