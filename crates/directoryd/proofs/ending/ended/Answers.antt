use Rattle.directoryd.proofs.Telling.{told}
use Rattle.directoryd.proofs.ending.ended.Goals as goal

pub returns-in-Err : goal.returns-in-Err
returns-in-Err g c = rw c.in-Err.is (c.status.ensures, told _ _ _ c.tell.result _ c.is_ok-is_told.ensures.value c.tell.ensures.ok c.tell.ensures.err)
