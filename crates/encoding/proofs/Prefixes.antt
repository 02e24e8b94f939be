-- A prefix grows by one bit.
use Rattle.std.proofs.Common.{◌≡◌, ℕ, suc, ◌+◌, ◌-◌, ◌*◌, ◌/◌, ◌%◌, ◌^◌, ◌<◌, ◌≤◌, List, [], ◌∷◌, length, bit_or, refl, ap, ◌∙◌, arith, inl, inr, add-one}
use Rattle.std.specs.Int.{bit_at}
use Rattle.std.proofs.lemmas.Nat.{shr-shr, or_shifted, pow_below}
use Rattle.std.proofs.lemmas.Bool.{cases_lt}
use Rattle.std.proofs.Math.Nat.{pow-succ'}
use Rattle.encoding.specs.Bits.{bit, top_bits, cut, with_one}

pow-double : (m : ℕ) → 2 ^ (m + 1) ≡ 2 * 2 ^ m
pow-double m = rw add-one (pow-succ' 2 m)

mul-halves : (q p : ℕ) → q * p ≡ q / 2 * (2 * p) + q % 2 * p
mul-halves q p =
    let e : q ≡ q / 2 * 2 + q % 2 = omega arith in
    let h : q * p ≡ (q / 2 * 2 + q % 2) * p = ap (λ z. z * p) e in
    omega (arith, h)

-- the bits of a byte from m on are those from m + 1 on, and bit m
bits_from : (b m : ℕ) → b / 2 ^ m * 2 ^ m ≡ b / 2 ^ (m + 1) * 2 ^ (m + 1) + b / 2 ^ m % 2 * 2 ^ m
bits_from b m = rw (← shr-shr b m 1, pow-double m) (mul-halves (b / 2 ^ m) (2 ^ m))

top_bits-zero : (b k : ℕ) → k < 8 → bit_at b (7 - k) ≡ 0 → top_bits b (k + 1) ≡ top_bits b k
top_bits-zero b k h z =
    let low : 8 - (k + 1) ≡ 7 - k = omega arith in
    let high : 8 - k ≡ (7 - k) + 1 = omega arith in
    rw (low, high) (bits_from b (7 - k) ∙ rw z (omega arith))

top_bits-one : (b k : ℕ) → k < 8 → bit_at b (7 - k) ≡ 1 → top_bits b (k + 1) ≡ bit_or (top_bits b k) (2 ^ (7 - k))
top_bits-one b k h z =
    let low : 8 - (k + 1) ≡ 7 - k = omega arith in
    let high : 8 - k ≡ (7 - k) + 1 = omega arith in
    let join : bit_or (b / 2 ^ ((7 - k) + 1) * 2 ^ ((7 - k) + 1)) (2 ^ (7 - k)) ≡ b / 2 ^ ((7 - k) + 1) * 2 ^ ((7 - k) + 1) + 2 ^ (7 - k) =
    or_shifted (b / 2 ^ ((7 - k) + 1)) ((7 - k) + 1) (2 ^ (7 - k)) (pow_below (7 - k) ((7 - k) + 1) (omega arith)) in
    rw (low, high) (bits_from b (7 - k) ∙ rw z (omega (arith, join)))

pub top_bits-whole : (b n : ℕ) → 8 ≤ n → top_bits b n ≡ b
top_bits-whole b n h =
    let none : 8 - n ≡ 0 = omega arith in
    rw none (omega arith)

-- where bit k stands, in the first byte or past it
pub first_byte : (k : ℕ) → k < 8 → (k / 8 ≡ 0) × (k % 8 ≡ k) × (k + 1 - 8 ≡ k - 8)
first_byte k h = (omega arith, omega arith, omega arith)

pub later_byte : (k : ℕ) → 8 ≤ k → (k / 8 ≡ suc ((k - 8) / 8)) × (k % 8 ≡ (k - 8) % 8) × (k + 1 - 8 ≡ (k - 8) + 1)
later_byte k h = (omega arith, omega arith, omega arith)

-- a bit of 0 leaves the prefix as it is
pub cut_zero : (i : List ℕ) (k : ℕ) → bit i k ≡ 0 → cut i (k + 1) ≡ cut i k
cut_zero [] k z = refl
cut_zero (b ∷ bs) k z =
    elim (cases_lt k 8) [
      | inl h ↦ let f = first_byte k h in rw (top_bits-zero b k h (rw (f.0, f.1) at z), f.2) refl
      | inr h ↦
          let l = later_byte k h in
          rw (top_bits-whole b (k + 1) (omega arith), top_bits-whole b k h, l.2, cut_zero bs (k - 8) (rw (l.0, l.1) at z)) refl
    ]

-- a bit of 1 is set in it
pub cut_one : (i : List ℕ) (k : ℕ) → k < 8 * length i → bit i k ≡ 1 → cut i (k + 1) ≡ with_one (cut i k) k
cut_one [] k h z = absurd (omega arith)
cut_one (b ∷ bs) k h z =
    elim (cases_lt k 8) [
      | inl s ↦ let f = first_byte k s in rw (top_bits-one b k s (rw (f.0, f.1) at z), f.2, f.0, f.1) refl
      | inr s ↦
          let l = later_byte k s in
          rw (top_bits-whole b (k + 1) (omega arith), top_bits-whole b k s, l.2, l.0, l.1, cut_one bs (k - 8) (omega arith) (rw (l.0, l.1) at z)) refl
    ]
