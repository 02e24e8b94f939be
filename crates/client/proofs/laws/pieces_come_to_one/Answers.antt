use Rattle.client.proofs.InPieces.{to-one-update}
use Rattle.client.proofs.laws.pieces_come_to_one.Goals as goal

pub returns : goal.returns
returns g c = to-one-update g.H.NodeHash.digest_of g.S.Verifier.verified
