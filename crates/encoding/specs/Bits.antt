-- The bits of an index, counted from the most significant bit of its first byte, and its prefixes
-- (CONIKS, section 3, which leaves the order of the bits open).
use Rattle.std.specs.Prelude.{◌≡◌, ℕ, ◌-◌, ◌*◌, ◌/◌, ◌%◌, ◌^◌, List, [], ◌∷◌, slice_index, slice_set, bit_or}
use Rattle.std.specs.Int.{bit_at}

-- bit k, 0 or 1, is bit 7 - (k mod 8) of byte k div 8
abbrev pub bit : List ℕ → ℕ → ℕ
bit index k = bit_at (slice_index index (k / 8)) (7 - k % 8)

-- the first n bits of a byte, the others zero; the whole byte from 8 on
abbrev pub top_bits : ℕ → ℕ → ℕ
top_bits byte n = byte / 2 ^ (8 - n) * 2 ^ (8 - n)

-- the prefix of n bits: those from n on set to zero
abbrev pub cut : List ℕ → ℕ → List ℕ
cut [] n = []
cut (byte ∷ bytes) n = top_bits byte n ∷ cut bytes (n - 8)

-- the same first n bits
abbrev pub Agree : List ℕ → List ℕ → ℕ → Type 0
Agree a b n = cut a n ≡ cut b n

-- bit k set to one
abbrev pub with_one : List ℕ → ℕ → List ℕ
with_one prefix k = slice_set prefix (k / 8) (bit_or (slice_index prefix (k / 8)) (2 ^ (7 - k % 8)))
