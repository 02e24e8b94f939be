-- Indices that agree in their first bits: fewer bits, their next bit, and their order.
use Rattle.std.proofs.Common.{◌≡◌, ℕ, suc, ◌+◌, ◌-◌, ◌*◌, ◌/◌, ◌%◌, ◌^◌, ◌<◌, ◌≤◌, ◌⊎◌, List, [], ◌∷◌, length, replicate, refl, sym, ap, ◌∙◌, arith, inl, inr}
use Rattle.std.specs.Ordering.{nat_cmp}
use Rattle.std.specs.Cmp.{nat_cmp_is}
use Rattle.std.specs.Cmp.Lexicographic.{slice_cmp}
use Rattle.std.specs.declared.cmp.Ordering.TheVariants.{Less, Equal}
use Rattle.std.proofs.lemmas.Nat.{shr-shr, shl-shr}
use Rattle.std.proofs.lemmas.Nat.Bits.{bit_at-zero, bit_at_cat_low}
use Rattle.std.specs.Int.{bit_at}
use Rattle.std.proofs.lemmas.Bool.{cases_lt, cases_eq}
use Rattle.std.proofs.Math.Pow.{shr_mono}
use Rattle.encoding.specs.Bits.{bit, top_bits, cut, with_one}
use Rattle.encoding.specs.Bytes.{IsBytes}
use Rattle.encoding.proofs.Prefixes.{cut_zero, cut_one, top_bits-whole, first_byte, later_byte}

shr-shifted : (b u w : ℕ) → b / 2 ^ u * 2 ^ u / 2 ^ (u + w) ≡ b / 2 ^ (u + w)
shr-shifted b u w = sym (shr-shr (b / 2 ^ u * 2 ^ u) u w) ∙ ap (λ q. q / 2 ^ w) (shl-shr (b / 2 ^ u) u) ∙ shr-shr b u w

top_bits-top_bits : (b n m : ℕ) → n ≤ m → top_bits (top_bits b m) n ≡ top_bits b n
top_bits-top_bits b n m h =
    let e : 8 - n ≡ (8 - m) + ((8 - n) - (8 - m)) = omega arith in
    rw e (ap (λ q. q * 2 ^ ((8 - m) + ((8 - n) - (8 - m)))) (shr-shifted b (8 - m) ((8 - n) - (8 - m))))

-- the first n bits of the first m, where m is no less, are the first n
pub cut-cut : (i : List ℕ) (n m : ℕ) → n ≤ m → cut (cut i m) n ≡ cut i n
cut-cut [] n m h = refl
cut-cut (b ∷ bs) n m h = rw (top_bits-top_bits b n m h, cut-cut bs (n - 8) (m - 8) (omega arith)) refl

pub agree_in_fewer : (i j : List ℕ) (n m : ℕ) → n ≤ m → cut i m ≡ cut j m → cut i n ≡ cut j n
agree_in_fewer i j n m h e = sym (cut-cut i n m h) ∙ ap (λ x. cut x n) e ∙ cut-cut j n m h

-- all bits
pub cut-whole : (i : List ℕ) (n : ℕ) → 8 * length i ≤ n → cut i n ≡ i
cut-whole [] n h = refl
cut-whole (b ∷ bs) n h = rw (top_bits-whole b n (omega arith), cut-whole bs (n - 8) (omega arith)) refl

-- no bit
pub cut-none : (i : List ℕ) → IsBytes i → cut i 0 ≡ replicate (length i) 0
cut-none [] h = refl
cut-none (b ∷ bs) h = let low : b < 256 = h 0 in rw (cut-none bs (λ k. h (suc k))) (ap (λ x. x ∷ replicate (length bs) 0) (omega arith))

pub length-cut : (i : List ℕ) (n : ℕ) → length (cut i n) ≡ length i
length-cut [] n = refl
length-cut (b ∷ bs) n = ap suc (length-cut bs (n - 8))

pub bit-cases : (i : List ℕ) (k : ℕ) → (bit i k ≡ 0) ⊎ (bit i k ≡ 1)
bit-cases i k = elim (cases_eq (bit i k) 0) [ inl e ↦ inl e | inr n ↦ inr (omega arith) ]

-- indices that agree in one bit more have that bit in common
pub agree_in_bit : (i j : List ℕ) (k : ℕ) → cut i (k + 1) ≡ cut j (k + 1) → bit i k ≡ bit j k
agree_in_bit [] [] k e = refl
agree_in_bit [] (y ∷ ys) k e = absurd (cc)
agree_in_bit (x ∷ xs) [] k e = absurd (cc)
agree_in_bit (x ∷ xs) (y ∷ ys) k e =
    let heads : top_bits x (k + 1) ≡ top_bits y (k + 1) = cc in
    let tails : cut xs (k + 1 - 8) ≡ cut ys (k + 1 - 8) = cc in
    elim (cases_lt k 8) [
      | inl s ↦
          let f = first_byte k s in
          let low : 8 - (k + 1) ≡ 7 - k = omega arith in
          let same : x / 2 ^ (7 - k) ≡ y / 2 ^ (7 - k) = sym (shl-shr (x / 2 ^ (7 - k)) (7 - k)) ∙ ap (λ q. q / 2 ^ (7 - k)) (rw low at heads) ∙ shl-shr (y / 2 ^ (7 - k)) (7 - k) in
          rw (f.0, f.1) (ap (λ q. q % 2) same)
      | inr s ↦
          let l = later_byte k s in
          rw (l.0, l.1) (agree_in_bit xs ys (k - 8) (rw l.2 at tails))
    ]

-- indices that agree so far and have the next bit in common agree in one bit more
pub agree_in_next : (i j : List ℕ) (k : ℕ) → k < 8 * length i → k < 8 * length j → cut i k ≡ cut j k → bit i k ≡ bit j k → cut i (k + 1) ≡ cut j (k + 1)
agree_in_next i j k p q e b =
    elim (bit-cases i k) [
      | inl z ↦ cut_zero i k z ∙ e ∙ sym (cut_zero j k (sym b ∙ z))
      | inr z ↦ cut_one i k p z ∙ ap (λ x. with_one x k) e ∙ sym (cut_one j k q (sym b ∙ z))
    ]

-- a bit of the first n
pub bit-cut : (i : List ℕ) (n k : ℕ) → k < n → bit (cut i n) k ≡ bit i k
bit-cut i n k h = agree_in_bit (cut i n) i k (cut-cut i (k + 1) n (omega arith))

low_bits_cleared : (x m i : ℕ) → i < m → bit_at (x / 2 ^ m * 2 ^ m) i ≡ 0
low_bits_cleared x m i h =
    let none : x / 2 ^ m * 2 ^ m ≡ x / 2 ^ m * 2 ^ m + 0 = omega arith in
    ap (λ z. bit_at z i) none ∙ bit_at_cat_low (x / 2 ^ m) m 0 i h ∙ bit_at-zero i

-- the others are zero
pub bit-past_cut : (i : List ℕ) (n k : ℕ) → n ≤ k → bit (cut i n) k ≡ 0
bit-past_cut [] n k h = bit_at-zero (7 - k % 8)
bit-past_cut (b ∷ bs) n k h = elim (cases_lt k 8) [
  | inl s ↦
      let f = first_byte k s in
      rw (f.0, f.1) (low_bits_cleared b (8 - n) (7 - k) (omega arith))
  | inr s ↦
      let l = later_byte k s in
      rw (l.0, l.1) (bit-past_cut bs (n - 8) (k - 8) (omega arith))
]

nat_cmp-less : (x y : ℕ) → x < y → nat_cmp x y ≡ Less
nat_cmp-less x y h = sym (nat_cmp_is x y Less h)

nat_cmp-equal : (x y : ℕ) → x ≡ y → nat_cmp x y ≡ Equal
nat_cmp-equal x y h = sym (nat_cmp_is x y Equal h)

-- where indices that agree so far differ, the one whose next bit is 0 stands before the other
pub index_below : (i j : List ℕ) (k : ℕ) → k < 8 * length j → cut i k ≡ cut j k → bit i k ≡ 0 → bit j k ≡ 1 → slice_cmp nat_cmp i j ≡ Less
index_below [] [] k h e z o = absurd (omega arith)
index_below [] (y ∷ ys) k h e z o = absurd (cc)
index_below (x ∷ xs) [] k h e z o = absurd (cc)
index_below (x ∷ xs) (y ∷ ys) k h e z o =
    let heads : top_bits x k ≡ top_bits y k = cc in
    let tails : cut xs (k - 8) ≡ cut ys (k - 8) = cc in
    elim (cases_lt k 8) [
      | inl s ↦
          let f = first_byte k s in
          let high : 8 - k ≡ (7 - k) + 1 = omega arith in
          let same : x / 2 ^ (7 - k + 1) ≡ y / 2 ^ (7 - k + 1) = sym (shl-shr (x / 2 ^ (7 - k + 1)) (7 - k + 1)) ∙ ap (λ q. q / 2 ^ (7 - k + 1)) (rw high at heads) ∙ shl-shr (y / 2 ^ (7 - k + 1)) (7 - k + 1) in
          let halves : x / 2 ^ (7 - k) / 2 ≡ y / 2 ^ (7 - k) / 2 = shr-shr x (7 - k) 1 ∙ same ∙ sym (shr-shr y (7 - k) 1) in
          let zero_bit : x / 2 ^ (7 - k) % 2 ≡ 0 = rw (f.0, f.1) at z in
          let one_bit : y / 2 ^ (7 - k) % 2 ≡ 1 = rw (f.0, f.1) at o in
          let less : x / 2 ^ (7 - k) < y / 2 ^ (7 - k) = omega arith in
          rw (nat_cmp-less x y (below_by x y (7 - k) less)) refl
      | inr s ↦
          let l = later_byte k s in
          let same : x ≡ y = sym (top_bits-whole x k s) ∙ heads ∙ top_bits-whole y k s in
          rw (nat_cmp-equal x y same) (index_below xs ys (k - 8) (omega arith) tails (rw (l.0, l.1) at z) (rw (l.0, l.1) at o))
    ]
  where
    below_by : (x y m : ℕ) → x / 2 ^ m < y / 2 ^ m → x < y
    below_by x y m h = elim (cases_lt x y) [ inl q ↦ q | inr q ↦ absurd (omega (arith, shr_mono m q)) ]
