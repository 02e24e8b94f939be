use Rattle.std.proofs.Common.{◌≡◌, ◌++◌, length}
use Rattle.std.specs.Io.{StartsWith}
use Rattle.hex.specs.Hex.{encode_lower}
use Rattle.memory.proofs.writing.push_hex.Given as goal

-- the digits so far, and those of the rest, are all the digits
abbrev pub invariant-loop-rest : goal.invariant-loop-rest
invariant-loop-rest l = (l.text.items ++ encode_lower l.rest ≡ l.initial.text.items ++ encode_lower l.bytes)
    × StartsWith l.text.items l.initial.text.items

-- the bytes that are left
abbrev pub decreases-loop-rest : goal.decreases-loop-rest
decreases-loop-rest l = length l.rest
