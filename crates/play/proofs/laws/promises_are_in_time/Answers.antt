use Rattle.play.proofs.InTime.{monitors-in-time, promises-later}
use Rattle.play.proofs.laws.promises_are_in_time.Goals as goal

pub returns-clause-monitors : goal.returns-clause-monitors
returns-clause-monitors c = monitors-in-time

pub returns-clause-promises : goal.returns-clause-promises
returns-clause-promises c = promises-later
