use Rattle.std.proofs.KnownBytes.{Keeps-refl}
use Rattle.directoryd.proofs.ending.start.Goals as goal

pub returns-in-Err : goal.returns-in-Err
returns-in-Err g c = rw c.in-Err.is (Keeps-refl _, c.refuse_bytes.ensures.prints, c.refuse_bytes.ensures.memory)

pub returns-in-Ok-reader : goal.returns-in-Ok-reader
returns-in-Ok-reader g c = rw (c.in-Ok.is, c.in-Ok-reader.is, ← c.as_slice.ensures.value) c.run.ensures
