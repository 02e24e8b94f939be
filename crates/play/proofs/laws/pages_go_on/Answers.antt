use Rattle.play.proofs.GoingOn.{history, monitors}
use Rattle.play.proofs.laws.pages_go_on.Goals as goal

pub returns-clause-history : goal.returns-clause-history
returns-clause-history c = history

pub returns-clause-monitors : goal.returns-clause-monitors
returns-clause-monitors c = monitors
