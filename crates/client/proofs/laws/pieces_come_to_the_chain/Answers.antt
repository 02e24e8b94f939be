use Rattle.client.proofs.InPieces.{as-chain}
use Rattle.client.proofs.laws.pieces_come_to_the_chain.Goals as goal

pub returns : goal.returns
returns g c = as-chain g.H.NodeHash.digest_of g.S.Verifier.verified
