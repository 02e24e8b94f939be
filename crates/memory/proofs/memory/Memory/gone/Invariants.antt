use Rattle.std.proofs.Common.{map, take, Contains}
use Rattle.rootchain.specs.declared.signed_promise.SignedPromise.{SignedPromise}
use Rattle.memory.specs.Lists.{IsLeft}
use Rattle.memory.specs.Memories.{signed_of}
use Rattle.memory.proofs.memory.Memory.gone.Given as goal

-- those so far that are no longer kept
abbrev pub invariant-loop-promised : goal.invariant-loop-promised
invariant-loop-promised l = IsLeft (λ (signed : SignedPromise). ¬ Contains l.kept signed) (map signed_of (take l.promised-index l.promised-items)) l.gone.items
