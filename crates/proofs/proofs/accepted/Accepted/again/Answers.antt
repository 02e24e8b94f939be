use Rattle.proofs.proofs.Sound.{not_spelled, still_accepted}
use Rattle.proofs.proofs.accepted.Accepted.again.Goals as goal

pub unreachable-requires : goal.unreachable-requires
unreachable-requires g c = not_spelled c.args.bytes.now c.in_default.field-0 c.in_default.ensures.exact c.requires.1 c.requires.2.0

pub new-requires-clause-accepted : goal.new-requires-clause-accepted
new-requires-clause-accepted g c =
    rw c.copied.ensures (still_accepted g.H.NodeHash.digest_of g.V.VufCheck.accepted c.args.name.now c.args.bytes.now c.in-Ok.view c.in-Ok.ensures.exact c.requires)
