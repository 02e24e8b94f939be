use Rattle.rootchain.proofs.TakingPieces.{whole-roots}
use Rattle.rootchain.proofs.laws.whole_roots_are_taken.Goals as goal

pub returns : goal.returns
returns g c = whole-roots g.H.NodeHash.digest_of g.S.Verifier.verified
