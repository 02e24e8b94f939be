use Rattle.rootchain.proofs.TakingPieces.{malformed-none}
use Rattle.rootchain.proofs.laws.malformed_begins_no_list.Goals as goal

pub returns : goal.returns
returns g c = malformed-none g.H.NodeHash.digest_of g.S.Verifier.verified
