use Rattle.play.proofs.Calling.{all-honest}
use Rattle.play.proofs.laws.honest.Goals as goal

pub returns : goal.returns
returns g c = λ provider key before after commands replies h. all-honest provider g.V.VufCheck.accepted g.S.Verifier.verified key before after commands replies h
