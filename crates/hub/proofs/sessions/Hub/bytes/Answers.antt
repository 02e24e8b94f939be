use Rattle.hub.proofs.Hearing.{hears_happens}
use Rattle.hub.proofs.sessions.Hub.bytes.Goals as goal

pub returns-clause-happens : goal.returns-clause-happens
returns-clause-happens g c = hears_happens g.D.Service.answers _ _ _ _ _ _ _ c.piece.ensures.hears
