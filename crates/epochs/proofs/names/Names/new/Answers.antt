use Rattle.std.proofs.Common.{List, refl}
use Rattle.epochs.specs.Histories.{Version}
use Rattle.epochs.specs.Versions.{at_bytes}
use Rattle.book.proofs.Entries.{ascends_none}
use Rattle.epochs.proofs.names.Names.new.Goals as goal

pub invariant_of-result : goal.invariant_of-result
unfolding at_bytes
invariant_of-result c = rw c.with_hasher.ensures.empty (record { names_ascend = ascends_none (List Version); versions_ascend = tt })

pub returns : goal.returns
unfolding at_bytes
returns c = rw c.with_hasher.ensures.empty refl
