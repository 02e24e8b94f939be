use Rattle.asking.proofs.ChainRoots.{told_are_of_chain}
use Rattle.asking.proofs.laws.told_roots_are_of_the_chain.Goals as goal

pub returns : goal.returns
returns g c =
    λ chain held from count roots told are fine. told_are_of_chain g.H.NodeHash.digest_of g.S.Verifier.verified chain (record { held = held; from = from; count = count }) roots told are fine
