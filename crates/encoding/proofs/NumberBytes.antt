-- The bytes of a number, and the number of bytes: each gives the other back.
use Rattle.std.proofs.Common.{◌≡◌, ℕ, zero, suc, ◌+◌, ◌*◌, ◌^◌, ◌<◌, List, [], ◌∷◌, length, refl, sym, ap, ◌∙◌, arith}
use Rattle.std.proofs.lemmas.List.{append-nil}
use Rattle.std.proofs.lemmas.Nat.{same_from_place}
use Rattle.byteorder.specs.Endian.{big_bytes, big_number}
use Rattle.byteorder.specs.Numbers.{big_from-cons, big_from-lt, big_number-reads_back, length-bytes_high_first}
use Rattle.encoding.specs.Bytes.{IsBytes}
use Rattle.encoding.proofs.ByteLists.{IsBytes-bytes_high_first}

pub number-of_bytes : (count n : ℕ) → n < 256 ^ count → big_number count (big_bytes count n) ≡ n
number-of_bytes count n small = ap (big_number count) (sym (append-nil (big_bytes count n))) ∙ big_number-reads_back count n [] small

-- as many bytes with one number are the same
same_from_number : (count : ℕ) (xs ys : List ℕ) → length xs ≡ count → length ys ≡ count → IsBytes xs → IsBytes ys → big_number count xs ≡ big_number count ys → xs ≡ ys
same_from_number zero [] [] len_x len_y bytes_x bytes_y same = refl
same_from_number zero [] (y ∷ ys) len_x len_y bytes_x bytes_y same = absurd (omega arith)
same_from_number zero (x ∷ xs) ys len_x len_y bytes_x bytes_y same = absurd (omega arith)
same_from_number (suc count) [] ys len_x len_y bytes_x bytes_y same = absurd (omega arith)
same_from_number (suc count) (x ∷ xs) [] len_x len_y bytes_x bytes_y same = absurd (omega arith)
same_from_number (suc count) (x ∷ xs) (y ∷ ys) len_x len_y bytes_x bytes_y same =
    let low_x : IsBytes xs = λ k. bytes_x (suc k) in
    let low_y : IsBytes ys = λ k. bytes_y (suc k) in
    let split : x * 256 ^ count + big_number count xs ≡ y * 256 ^ count + big_number count ys =
    ap (λ low. x * 256 ^ count + low) (sym (big_from-cons 0 count x xs)) ∙ same ∙ ap (λ low. y * 256 ^ count + low) (big_from-cons 0 count y ys) in
    let digits = same_from_place x (big_number count xs) y (big_number count ys) (256 ^ count) (big_from-lt 0 count xs low_x) (big_from-lt 0 count ys low_y) split in
    let heads : x ≡ y = digits.0 in
    let tails : xs ≡ ys = same_from_number count xs ys (omega arith) (omega arith) low_x low_y digits.1 in
    cc

pub bytes-of_number : (count : ℕ) (bytes : List ℕ) → length bytes ≡ count → IsBytes bytes → big_bytes count (big_number count bytes) ≡ bytes
bytes-of_number count bytes len small =
    same_from_number count (big_bytes count (big_number count bytes)) bytes (length-bytes_high_first count (big_number count bytes)) len (IsBytes-bytes_high_first count (big_number count bytes)) small
    (number-of_bytes count (big_number count bytes) (big_from-lt 0 count bytes small))
