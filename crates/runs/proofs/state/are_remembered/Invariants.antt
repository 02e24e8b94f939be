use Rattle.std.proofs.Common.{◌≡◌, ◌++◌, map, take}
use Rattle.memory.specs.Memories.{signed_of}
use Rattle.runs.proofs.state.are_remembered.Given as goal

-- those so far are the first ones that are kept
abbrev pub invariant-loop-promised : goal.invariant-loop-promised
invariant-loop-promised l = l.kept ≡ map signed_of (take l.promised-index l.remembered) ++ l.rest
