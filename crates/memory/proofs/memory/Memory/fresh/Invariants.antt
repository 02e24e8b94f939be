use Rattle.std.proofs.Common.{◌≤◌, length, drop, All}
use Rattle.rootchain.specs.declared.signed_promise.SignedPromise.{SignedPromise}
use Rattle.memory.specs.Learning.{Remembers}
use Rattle.memory.proofs.memory.Memory.fresh.Given as goal

-- none behind the place is remembered
abbrev pub invariant-loop-start : goal.invariant-loop-start
invariant-loop-start l = (l.start ≤ length l.kept) × All (λ (signed : SignedPromise). ¬ Remembers l.self signed) (drop l.start l.kept)

abbrev pub decreases-loop-start : goal.decreases-loop-start
decreases-loop-start l = l.start
