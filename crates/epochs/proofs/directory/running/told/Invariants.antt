use Rattle.std.proofs.Common.{◌≡◌, take}
use Rattle.epochs.proofs.directory.running.told.Given as goal

-- those so far are the first roots
abbrev pub invariant-loop-root : goal.invariant-loop-root
invariant-loop-root l = l.told.items ≡ take l.root-index l.roots
