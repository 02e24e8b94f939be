-- What a prefix, a bit set to one and agreement are, bit by bit.
use Rattle.std.specs.Prelude.{◌≡◌, ℕ, ◌*◌, ◌<◌, ◌↔◌, if◌then◌else◌, nat_lt, ◌==◌, List, length}
use Rattle.encoding.specs.Bits.{bit, cut, with_one, Agree}
use Rattle.encoding.specs.Bytes.{Is32Bytes}

-- the first n bits are the index's, the others zero
abbrev pub BitsOfCut : Type 0
BitsOfCut = (index : List ℕ) (n k : ℕ) → bit (cut index n) k ≡ (if nat_lt k n then bit index k else 0)

-- bit k is one, the others are as they were
abbrev pub BitsOfWithOne : Type 0
BitsOfWithOne = (prefix : List ℕ) (k j : ℕ) → k < 8 * length prefix → bit (with_one prefix k) j ≡ (if j == k then 1 else bit prefix j)

-- of 256 bits, the first n are the same
abbrev pub SameBits : List ℕ → List ℕ → ℕ → Type 0
SameBits a b n = (k : ℕ) → k < n → k < 256 → bit a k ≡ bit b k

-- two indices agree in n bits exactly where their first n bits are the same
abbrev pub AgreementOfBits : Type 0
AgreementOfBits = (a b : List ℕ) (n : ℕ) → Is32Bytes a → Is32Bytes b → Agree a b n ↔ SameBits a b n
