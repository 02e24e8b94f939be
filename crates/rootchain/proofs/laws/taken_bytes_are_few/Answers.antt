use Rattle.rootchain.proofs.TakingPieces.{taken-few}
use Rattle.rootchain.proofs.laws.taken_bytes_are_few.Goals as goal

pub returns : goal.returns
returns g c = taken-few g.H.NodeHash.digest_of g.S.Verifier.verified
