use Rattle.proofs.proofs.Honest.{honest-accepted}
use Rattle.proofs.proofs.laws.honest_replies_are_accepted.Goals as goal

pub returns : goal.returns
returns g c name items reply honest = honest-accepted g.H.NodeHash.digest_of g.V.VufCheck.accepted name items reply (g.met.H.NodeHash.digest_size reply.value) honest
