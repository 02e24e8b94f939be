use Rattle.std.proofs.Common.{◌≡◌, ◌++◌, drop}
use Rattle.std.specs.Io.{StartsWith}
use Rattle.hex.specs.Hex.{encode_lower}
use Rattle.memory.proofs.writing.push_each.Given as goal

-- the digits so far, and those of the bytes that are left, are all the digits
abbrev pub invariant-loop-byte : goal.invariant-loop-byte
invariant-loop-byte l = (l.text.items ++ encode_lower (drop l.byte-index l.bytes) ≡ l.initial.text.items ++ encode_lower l.bytes)
    × StartsWith l.text.items l.initial.text.items
