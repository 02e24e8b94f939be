use Rattle.std.proofs.Common.{refl}
use Rattle.epochs.specs.Versions.{at_bytes}
use Rattle.epochs.proofs.waiting.Waiting.new.Goals as goal

pub returns : goal.returns
unfolding at_bytes
returns c = rw c.with_hasher.ensures.empty refl
