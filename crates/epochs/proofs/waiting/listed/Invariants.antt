use Rattle.std.proofs.Common.{◌≡◌, ◌++◌}
use Rattle.epochs.proofs.waiting.listed.Given as goal

abbrev pub invariant-loop-index : goal.invariant-loop-index
invariant-loop-index l = l.items.items ++ l.index-iterator ≡ l.commitments.entries
