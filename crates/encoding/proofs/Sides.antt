-- The two prefixes of one bit more: the prefix itself, for bit 0, and with that bit set, for bit 1.
use Rattle.std.proofs.Common.{◌≡◌, ℕ, ◌+◌, ◌-◌, ◌*◌, ◌/◌, ◌%◌, ◌^◌, ◌<◌, List, [], ◌∷◌, length, slice_index, bit_or, refl, sym, ap, ◌∙◌, arith, inl, inr}
use Rattle.std.specs.Int.{bit_at}
use Rattle.std.specs.Int.Bits.{or_zero_r}
use Rattle.std.proofs.lemmas.Nat.{or_shr, pow_below, pow_pos, div_below}
use Rattle.std.proofs.lemmas.Nat.Bits.{bit_at_or, bit_at-pow_same, bit_at-lt}
use Rattle.std.proofs.lemmas.List.{get_or-set_same, length-set}
use Rattle.std.proofs.lemmas.Bool.{cases_lt}
use Rattle.encoding.specs.Bits.{bit, top_bits, cut, with_one}
use Rattle.encoding.proofs.Agreement.{bit-past_cut}
use Rattle.encoding.proofs.Prefixes.{cut_zero, cut_one, first_byte, later_byte}

pub length-with_one : (p : List ℕ) (k : ℕ) → length (with_one p k) ≡ length p
length-with_one p k = length-set p (k / 8) (bit_or (slice_index p (k / 8)) (2 ^ (7 - k % 8)))

bit_at-or_pow : (a m : ℕ) → bit_at (bit_or a (2 ^ m)) m ≡ 1
bit_at-or_pow a m = bit_at_or a (2 ^ m) m ∙ omega (arith, bit_at-pow_same m, bit_at-lt a m)

pub bit-with_one : (p : List ℕ) (k : ℕ) → k < 8 * length p → bit (with_one p k) k ≡ 1
bit-with_one p k h =
    ap (λ b. bit_at b (7 - k % 8)) (get_or-set_same p (k / 8) (bit_or (slice_index p (k / 8)) (2 ^ (7 - k % 8))) 0 (omega arith))
    ∙ bit_at-or_pow (slice_index p (k / 8)) (7 - k % 8)

or_pow-above : (x m : ℕ) → bit_or x (2 ^ m) / 2 ^ (m + 1) ≡ x / 2 ^ (m + 1)
or_pow-above x m =
    let none : 2 ^ m / 2 ^ (m + 1) ≡ 0 = omega (arith, div_below (2 ^ m) (2 ^ (m + 1)) 1 (pow_pos (m + 1)) (omega (arith, pow_below m (m + 1) (omega arith)))) in
    or_shr x (2 ^ m) (m + 1) ∙ ap (bit_or (x / 2 ^ (m + 1))) none ∙ or_zero_r (x / 2 ^ (m + 1))

-- the bit that is set is none of those before it
pub cut-with_one : (p : List ℕ) (k : ℕ) → cut (with_one p k) k ≡ cut p k
cut-with_one [] k = refl
cut-with_one (b ∷ bs) k =
    elim (cases_lt k 8) [
      | inl s ↦
          let f = first_byte k s in
          let high : 8 - k ≡ (7 - k) + 1 = omega arith in
          rw (f.0, f.1, high) (ap (λ q. q * 2 ^ (7 - k + 1) ∷ cut bs (k - 8)) (or_pow-above b (7 - k)))
      | inr s ↦ let l = later_byte k s in rw (l.0, l.1) (ap (λ z. top_bits b k ∷ z) (cut-with_one bs (k - 8)))
    ]

-- the bits of a prefix from its length on are zero
pub bit-past_prefix : (p : List ℕ) (k : ℕ) → k < 8 * length p → cut p k ≡ p → bit p k ≡ 0
bit-past_prefix p k h e = ap (λ x. bit x k) (sym e) ∙ bit-past_cut p k k (omega arith)

pub cut-zero_side : (p : List ℕ) (k : ℕ) → k < 8 * length p → cut p k ≡ p → cut p (k + 1) ≡ p
cut-zero_side p k h e = cut_zero p k (bit-past_prefix p k h e) ∙ e

pub cut-one_side : (p : List ℕ) (k : ℕ) → k < 8 * length p → cut p k ≡ p → cut (with_one p k) (k + 1) ≡ with_one p k
cut-one_side p k h e =
    cut_one (with_one p k) k (omega (arith, length-with_one p k)) (bit-with_one p k h) ∙ ap (λ x. with_one x k) (cut-with_one p k ∙ e)
