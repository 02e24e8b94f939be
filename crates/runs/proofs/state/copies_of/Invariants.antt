use Rattle.std.proofs.Common.{◌≡◌, take}
use Rattle.runs.proofs.state.copies_of.Given as goal

-- the first promises are copied
abbrev pub invariant-loop-signed : goal.invariant-loop-signed
invariant-loop-signed l = l.copies.items ≡ take l.signed-index l.promises
