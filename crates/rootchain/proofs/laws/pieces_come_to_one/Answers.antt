use Rattle.rootchain.proofs.TakingPieces.{to-one}
use Rattle.rootchain.proofs.laws.pieces_come_to_one.Goals as goal

pub returns : goal.returns
returns g c = to-one g.H.NodeHash.digest_of g.S.Verifier.verified
