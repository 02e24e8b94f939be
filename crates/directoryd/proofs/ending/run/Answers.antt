use Rattle.std.proofs.Common.{inl}
use Rattle.directoryd.proofs.ending.run.Goals as goal

pub returns-in-Ok : goal.returns-in-Ok
returns-in-Ok g c = inl (_, c.in-Ok.ensures.ok, c.obey.ensures)
