use Rattle.client.proofs.InPieces.{cuts-of}
use Rattle.client.proofs.laws.cuts_of_a_list_do_not_matter.Goals as goal

pub returns : goal.returns
returns g c = cuts-of g.H.NodeHash.digest_of g.S.Verifier.verified
