-- Hash functions on byte strings, and their count.
use Rattle.std.specs.Prelude.{ℕ, zero, suc, ◌+◌, ◌-◌, ◌%◌, ◌^◌, List, ◌++◌, sum, replicate, min}
use Rattle.std.specs.Int.{w16, to_be_bytes}

-- thirty zero bytes, then the sum of the bytes modulo 65,536 in two
abbrev pub byte_sum : List ℕ → List ℕ
byte_sum text = replicate 30 0 ++ to_be_bytes w16 (sum text % 2 ^ 16)

-- one digest more, up to the greatest number that a count can hold
abbrev pub one_more : ℕ → ℕ
one_more count = min (count + 1) (2 ^ 64 - 1)

-- n digests more, one by one: count + n, up to the greatest number that a count can hold
abbrev pub after_digests : ℕ → ℕ → ℕ
after_digests zero count = count
after_digests (suc n) count = one_more (after_digests n count)
