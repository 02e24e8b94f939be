-- The bits of a prefix and of a prefix with one bit set; indices agree exactly in the bits that are the same.
use Rattle.std.proofs.Common.{◌≡◌, ◌≢◌, ℕ, zero, suc, ◌+◌, ◌-◌, ◌*◌, ◌/◌, ◌%◌, ◌^◌, ◌<◌, ◌≤◌, List, [], ◌∷◌, length, get_or, eqb, bit_or, refl, sym, ap, ◌∙◌, arith, inl, inr, get_or-set_other}
use Rattle.std.specs.Int.{bit_at}
use Rattle.std.proofs.lemmas.Bool.{cases_lt, cases_eq, cond_below, cond_above, cond_both, eqb-true, eqb-false}
use Rattle.std.proofs.lemmas.Grind.{get_or-set_at}
use Rattle.std.proofs.lemmas.Nat.{shr_split}
use Rattle.std.proofs.lemmas.Nat.Bits.{bit_at_or, bit_at-pow_other, same_from_bits_below}
use Rattle.encoding.specs.Bits.{bit, top_bits, cut, with_one, Agree}
use Rattle.encoding.specs.BitLaws.{BitsOfCut, BitsOfWithOne, SameBits, AgreementOfBits}
use Rattle.encoding.specs.Bytes.{IsBytes, Is32Bytes}
use Rattle.encoding.proofs.ByteLists.{IsBytes-cons}
use Rattle.encoding.proofs.Agreement.{bit-cut, bit-past_cut, length-cut}
use Rattle.encoding.proofs.Prefixes.{first_byte, later_byte}
use Rattle.encoding.proofs.Sides.{bit-with_one}

pub bits_of_cut : BitsOfCut
bits_of_cut index n k = elim (cases_lt k n) [
  | inl h ↦ bit-cut index n k h ∙ cond_below k n (bit index k) 0 h
  | inr h ↦ cond_above k n (bit index k) 0 (bit (cut index n) k) h (bit-past_cut index n k h)
]

-- in the byte that is written
with_one_in_byte : (prefix : List ℕ) (k j : ℕ) → k < 8 * length prefix → j / 8 ≡ k / 8 → bit (with_one prefix k) j ≡ bit_at (bit_or (get_or prefix (k / 8) 0) (2 ^ (7 - k % 8))) (7 - j % 8)
with_one_in_byte prefix k j h e =
    let within : k / 8 < length prefix = omega arith in
    ap (λ z. bit_at z (7 - j % 8)) (get_or-set_at prefix (k / 8) (j / 8) (bit_or (get_or prefix (k / 8) 0) (2 ^ (7 - k % 8))) 0 e within)

with_one_keeps : (prefix : List ℕ) (k j : ℕ) → k < 8 * length prefix → j ≢ k → bit (with_one prefix k) j ≡ bit prefix j
with_one_keeps prefix k j h apart = elim (cases_eq (j / 8) (k / 8)) [
  | inl e ↦
      let byte = get_or prefix (k / 8) 0 in
      let places : 7 - j % 8 ≢ 7 - k % 8 = omega arith in
      let kept : bit_at (bit_or byte (2 ^ (7 - k % 8))) (7 - j % 8) ≡ bit_at byte (7 - j % 8) = omega (arith, bit_at_or byte (2 ^ (7 - k % 8)) (7 - j % 8), bit_at-pow_other (7 - k % 8) (7 - j % 8) places) in
      with_one_in_byte prefix k j h e ∙ kept ∙ ap (λ z. bit_at (get_or prefix z 0) (7 - j % 8)) (sym e)
  | inr other ↦ ap (λ z. bit_at z (7 - j % 8)) (get_or-set_other prefix (k / 8) (j / 8) (bit_or (get_or prefix (k / 8) 0) (2 ^ (7 - k % 8))) 0 other)
]

pub bits_of_with_one : BitsOfWithOne
bits_of_with_one prefix k j h = cond_both (eqb j k) 1 (bit prefix j) (λ z. bit (with_one prefix k) j ≡ z)
    (λ e. ap (bit (with_one prefix k)) (eqb-true j k e) ∙ bit-with_one prefix k h)
    (λ e. with_one_keeps prefix k j h (eqb-false j k e))

-- a byte's bits, from the greatest on
same_byte_from_bits : (x y : ℕ) → x < 256 → y < 256 → ((k : ℕ) → k < 8 → bit_at x (7 - k) ≡ bit_at y (7 - k)) → x ≡ y
same_byte_from_bits x y small_x small_y same = same_from_bits_below 8 x y small_x small_y (λ i h.
    let place : 7 - (7 - i) ≡ i = omega arith in
    rw place at (same (7 - i) (omega arith)))

-- bytes with the same bits are the same bytes
same_bytes_from_bits : (a b : List ℕ) → length a ≡ length b → IsBytes a → IsBytes b → ((k : ℕ) → k < 8 * length a → bit a k ≡ bit b k) → a ≡ b
same_bytes_from_bits [] [] len small_a small_b same = refl
same_bytes_from_bits [] (y ∷ ys) len small_a small_b same = absurd (omega arith)
same_bytes_from_bits (x ∷ xs) [] len small_a small_b same = absurd (omega arith)
same_bytes_from_bits (x ∷ xs) (y ∷ ys) len small_a small_b same =
    let head : x ≡ y = same_byte_from_bits x y (small_a zero) (small_b zero) (λ k h. let f = first_byte k h in rw (f.0, f.1) at (same k (omega arith))) in
    let tail : xs ≡ ys = same_bytes_from_bits xs ys (omega arith) (λ k. small_a (suc k)) (λ k. small_b (suc k)) (λ k h. next k (same (k + 8) (omega arith))) in
    cc
  where
    next : (k : ℕ) → bit (x ∷ xs) (k + 8) ≡ bit (y ∷ ys) (k + 8) → bit xs k ≡ bit ys k
    next k e =
        let l = later_byte (k + 8) (omega arith) in
        let back : k + 8 - 8 ≡ k = omega arith in
        rw (l.0, l.1, back) at e

top_bits_le : (byte n : ℕ) → top_bits byte n ≤ byte
top_bits_le byte n = omega (arith, shr_split byte (8 - n))

IsBytes-cut : (index : List ℕ) (n : ℕ) → IsBytes index → IsBytes (cut index n)
IsBytes-cut [] n small = small
IsBytes-cut (b ∷ bs) n small = IsBytes-cons (top_bits b n) (cut bs (n - 8)) (omega (arith, top_bits_le b n, small zero)) (IsBytes-cut bs (n - 8) (λ k. small (suc k)))

same_bits_from_agree : (a b : List ℕ) (n : ℕ) → Agree a b n → SameBits a b n
same_bits_from_agree a b n agree k h whole = sym (bit-cut a n k h) ∙ ap (λ z. bit z k) agree ∙ bit-cut b n k h

agree_from_same_bits : (a b : List ℕ) (n : ℕ) → Is32Bytes a → Is32Bytes b → SameBits a b n → Agree a b n
agree_from_same_bits a b n bytes_a bytes_b same =
    let len : length (cut a n) ≡ length (cut b n) = length-cut a n ∙ bytes_a.0 ∙ sym (bytes_b.0) ∙ sym (length-cut b n) in
    same_bytes_from_bits (cut a n) (cut b n) len (IsBytes-cut a n bytes_a.1) (IsBytes-cut b n bytes_b.1) each
  where
    each : (k : ℕ) → k < 8 * length (cut a n) → bit (cut a n) k ≡ bit (cut b n) k
    each k h = elim (cases_lt k n) [
      | inl before ↦
          let within : k < 256 = omega (arith, length-cut a n, bytes_a.0) in
          bit-cut a n k before ∙ same k before within ∙ sym (bit-cut b n k before)
      | inr past ↦ bit-past_cut a n k past ∙ sym (bit-past_cut b n k past)
    ]

pub agreement_of_bits : AgreementOfBits
agreement_of_bits a b n bytes_a bytes_b = (same_bits_from_agree a b n, agree_from_same_bits a b n bytes_a bytes_b)
