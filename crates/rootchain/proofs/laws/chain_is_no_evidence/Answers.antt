use Rattle.rootchain.proofs.Clashes.{not_evidence}
use Rattle.rootchain.proofs.laws.chain_is_no_evidence.Goals as goal

pub returns : goal.returns
returns g c chain key one other is formed held also =
    not_evidence g.H.NodeHash.digest_of g.S.Verifier.verified chain is formed key one other held also
