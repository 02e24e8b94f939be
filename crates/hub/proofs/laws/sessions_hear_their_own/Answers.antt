use Rattle.hub.proofs.Owning.{runs_tell, sessions_hear}
use Rattle.hub.proofs.laws.sessions_hear_their_own.Goals as goal

pub returns : goal.returns
returns g c = record { messages = sessions_hear; told = runs_tell g.D.Service.answers }
