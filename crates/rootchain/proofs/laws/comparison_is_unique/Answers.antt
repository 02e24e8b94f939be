use Rattle.rootchain.proofs.OneAnswer.{one_answer}
use Rattle.rootchain.proofs.laws.comparison_is_unique.Goals as goal

pub returns : goal.returns
returns g c one other answer also is is' h h' = one_answer g.H.NodeHash.digest_of g.S.Verifier.verified one other is is' answer also h h'
