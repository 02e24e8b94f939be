-- Lists whose elements are bytes.
use Rattle.std.proofs.Common.{ℕ, zero, suc, ◌<◌, List, [], ◌∷◌, ◌++◌, take, drop, replicate, arith}
use Rattle.std.proofs.lemmas.List.{take-append-drop}
use Rattle.std.specs.Int.{byte_at, bytes_high_first}
use Rattle.encoding.specs.Bytes.{IsBytes}

IsBytes-none : IsBytes []
IsBytes-none k = omega arith

pub IsBytes-cons : (x : ℕ) (xs : List ℕ) → x < 256 → IsBytes xs → IsBytes (x ∷ xs)
IsBytes-cons x xs h bytes zero = h
IsBytes-cons x xs h bytes (suc k) = bytes k

pub IsBytes-one : (x : ℕ) → x < 256 → IsBytes (x ∷ [])
IsBytes-one x first = IsBytes-cons x [] first IsBytes-none

pub IsBytes-two : (x y : ℕ) → x < 256 → y < 256 → IsBytes (x ∷ y ∷ [])
IsBytes-two x y first second = IsBytes-cons x (y ∷ []) first (IsBytes-cons y [] second IsBytes-none)

pub IsBytes-zeros : (count : ℕ) → IsBytes (replicate count 0)
IsBytes-zeros zero = IsBytes-none
IsBytes-zeros (suc count) = IsBytes-cons 0 (replicate count 0) (omega arith) (IsBytes-zeros count)

pub IsBytes-append : (xs ys : List ℕ) → IsBytes xs → IsBytes ys → IsBytes (xs ++ ys)
IsBytes-append [] ys front back = back
IsBytes-append (x ∷ xs) ys front back = IsBytes-cons x (xs ++ ys) (front zero) (IsBytes-append xs ys (λ k. front (suc k)) back)

byte_at-below : (k n : ℕ) → byte_at k n < 256
byte_at-below zero n = omega arith
byte_at-below (suc k) n = omega arith

-- a number's bytes
pub IsBytes-bytes_high_first : (count n : ℕ) → IsBytes (bytes_high_first count n)
IsBytes-bytes_high_first zero n = IsBytes-none
IsBytes-bytes_high_first (suc count) n = IsBytes-cons (byte_at count n) (bytes_high_first count n) (byte_at-below count n) (IsBytes-bytes_high_first count n)

pub IsBytes-front : (xs ys : List ℕ) → IsBytes (xs ++ ys) → IsBytes xs
IsBytes-front [] ys bytes = IsBytes-none
IsBytes-front (x ∷ xs) ys bytes = IsBytes-cons x xs (bytes zero) (IsBytes-front xs ys (λ k. bytes (suc k)))

pub IsBytes-back : (xs ys : List ℕ) → IsBytes (xs ++ ys) → IsBytes ys
IsBytes-back [] ys bytes = bytes
IsBytes-back (x ∷ xs) ys bytes = IsBytes-back xs ys (λ k. bytes (suc k))

pub IsBytes-take : (count : ℕ) (xs : List ℕ) → IsBytes xs → IsBytes (take count xs)
IsBytes-take count xs bytes = IsBytes-front (take count xs) (drop count xs) (rw (take-append-drop count xs) bytes)
