use Rattle.directoryd.proofs.ending.end.Goals as goal

pub returns : goal.returns
returns g c = (_, _, c.start-outcome.ensures, c.ended.ensures)
