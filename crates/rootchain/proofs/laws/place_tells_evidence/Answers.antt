use Rattle.rootchain.proofs.Telling.{tells_exactly}
use Rattle.rootchain.proofs.laws.place_tells_evidence.Goals as goal

pub returns : goal.returns
returns g c chain root place is formed root-formed signed p =
    tells_exactly g.H.NodeHash.digest_of g.S.Verifier.verified chain is root formed root-formed signed place p
