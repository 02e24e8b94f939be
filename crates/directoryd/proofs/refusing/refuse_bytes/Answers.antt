use Rattle.directoryd.proofs.refusing.refuse_bytes.Goals as goal

pub returns-clause-prints : goal.returns-clause-prints
returns-clause-prints g c = c.print.ensures.prints
