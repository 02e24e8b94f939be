-- Equal texts begin alike: with beginnings of one length, with numbers in as many bytes, and with
-- counted bytes.
use Rattle.std.proofs.Common.{◌≡◌, ℕ, ◌^◌, ◌<◌, List, ◌++◌, length, take, drop, sym, ap, ap₂, ◌∙◌, append_assoc, arith}
use Rattle.std.proofs.Math.Seq.{take-append_seam, drop-append_seam}
use Rattle.byteorder.specs.Endian.{big_bytes, big_number}
use Rattle.byteorder.specs.Numbers.{length-bytes_high_first}
use Rattle.encoding.specs.Forms.{counted_bytes}
use Rattle.encoding.proofs.NumberBytes.{number-of_bytes}

pub same_beginning : (xs ys us vs : List ℕ) → length xs ≡ length ys → xs ++ us ≡ ys ++ vs → (xs ≡ ys) × (us ≡ vs)
same_beginning xs ys us vs len e = (
  sym (take-append_seam xs us) ∙ ap₂ take len e ∙ take-append_seam ys vs,
  sym (drop-append_seam xs us) ∙ ap₂ drop len e ∙ drop-append_seam ys vs,
)

pub same_number_bytes : (count m n : ℕ) (us vs : List ℕ) → big_bytes count m ++ us ≡ big_bytes count n ++ vs → (big_bytes count m ≡ big_bytes count n) × (us ≡ vs)
same_number_bytes count m n us vs e =
    same_beginning (big_bytes count m) (big_bytes count n) us vs (length-bytes_high_first count m ∙ sym (length-bytes_high_first count n)) e

pub same_counted : (xs ys us vs : List ℕ) → length xs < 2 ^ 16 → length ys < 2 ^ 16 → counted_bytes xs ++ us ≡ counted_bytes ys ++ vs → (xs ≡ ys) × (us ≡ vs)
same_counted xs ys us vs small_x small_y e =
    let parted = same_number_bytes 2 (length xs) (length ys) (xs ++ us) (ys ++ vs) (sym (append_assoc (big_bytes 2 (length xs)) xs us) ∙ e ∙ append_assoc (big_bytes 2 (length ys)) ys vs) in
    let lengths : length xs ≡ length ys = sym (number-of_bytes 2 (length xs) (omega (arith, small_x))) ∙ ap (big_number 2) parted.0 ∙ number-of_bytes 2 (length ys) (omega (arith, small_y)) in
    same_beginning xs ys us vs lengths parted.1
