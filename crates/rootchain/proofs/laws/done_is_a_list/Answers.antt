use Rattle.rootchain.proofs.TakingPieces.{done-list}
use Rattle.rootchain.proofs.laws.done_is_a_list.Goals as goal

pub returns : goal.returns
returns g c = done-list g.H.NodeHash.digest_of g.S.Verifier.verified
