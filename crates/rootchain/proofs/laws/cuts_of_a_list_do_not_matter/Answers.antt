use Rattle.rootchain.proofs.TakingPieces.{cuts}
use Rattle.rootchain.proofs.laws.cuts_of_a_list_do_not_matter.Goals as goal

pub returns : goal.returns
returns g c = cuts g.H.NodeHash.digest_of g.S.Verifier.verified
