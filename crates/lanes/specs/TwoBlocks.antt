-- Messages of two blocks of 64 bytes (FIPS 180-4, section 5.1.1). The padding takes at least 9
-- bytes, so a message of 55 bytes fits in one block, and one of 120 needs three.
use Rattle.std.specs.Prelude.{ℕ, List, length, ◌<◌, ◌≤◌}
use Rattle.sha2.specs.Sha256.{padding, schedule}

-- the message fills two blocks with its padding: it has 56 to 119 bytes
abbrev pub HasTwoBlocks : List ℕ → Type 0
HasTwoBlocks m = (56 ≤ length m) × (length m < 120)

-- the schedule words of the second block of a message of 64 bytes. The block is padding alone: the
-- byte 0x80, zeros, and the length of 512 bits.
abbrev pub padding_words : List ℕ
padding_words = schedule (padding 64) 48
