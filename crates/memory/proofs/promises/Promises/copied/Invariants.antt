use Rattle.std.proofs.Common.{◌≡◌, take}
use Rattle.memory.proofs.promises.Promises.copied.Given as goal

-- the copies so far
abbrev pub invariant-loop-promised : goal.invariant-loop-promised
invariant-loop-promised l = l.copy ≡ take l.promised-index l.self
