use Rattle.play.proofs.Hearing.{runs-heard}
use Rattle.play.proofs.laws.runs_are_heard.Goals as goal

pub returns : goal.returns
returns g c = λ before after events lines run. runs-heard g.D.Service.answers before after events lines run
