-- The words of lines have neither spaces nor LFs.
use Rattle.std.proofs.Common.{◌≡◌, ℕ, suc, ◌/◌, ◌%◌, ◌^◌, ◌<◌, ◌≤◌, List, [], ◌∷◌, ◌++◌, Some, slice_index, arith}
use Rattle.std.specs.Fmt.{decimal}
use Rattle.std.specs.List.{AllByRecursion}
use Rattle.std.specs.Str.Parse.{AllDigits}
use Rattle.std.proofs.lemmas.Fmt.{decimal_is_IsNumeral}
use Rattle.std.proofs.lemmas.Str.Parse.{digit_from_value}
use Rattle.encoding.specs.Bytes.{IsBytes}
use Rattle.hex.specs.Hex.{encode_lower, encode_with, hex_digit_value, lower_digits}
use Rattle.hex.proofs.HexLemmas.{IsDigits-lower_digits}
use Rattle.memory.specs.Words.{HasNoSpace}

abbrev pub IsPlain : List ℕ → Type 0
IsPlain = AllByRecursion (λ byte. 32 < byte)

pub plain-append : (xs ys : List ℕ) → IsPlain xs → IsPlain ys → IsPlain (xs ++ ys)
plain-append [] ys p q = q
plain-append (x ∷ xs) ys p q = (p.0, plain-append xs ys p.1 q)

pub no_space : (xs : List ℕ) → IsPlain xs → HasNoSpace xs
no_space [] p = tt
no_space (x ∷ xs) p = (λ is. absurd (omega (arith, p.0, is)), no_space xs p.1)

digit_high : (c v : ℕ) → hex_digit_value c ≡ Some v → 48 ≤ c
digit_high c v e = grind (arith)

glyph-plain : (d : ℕ) → d < 16 → 32 < slice_index lower_digits d
glyph-plain d small = let high = digit_high (slice_index lower_digits d) d (IsDigits-lower_digits d small) in omega (arith, high)

pub plain-hex : (bytes : List ℕ) → IsBytes bytes → IsPlain (encode_lower bytes)
unfolding encode_with
plain-hex [] small = tt
plain-hex (byte ∷ bytes) small =
    let fits : byte < 256 = small 0 in
    let high : byte / 16 < 16 = omega arith in
    let low : byte % 16 < 16 = omega arith in
    (glyph-plain (byte / 16) high, (glyph-plain (byte % 16) low, plain-hex bytes (λ k. small (suc k))))

plain-digits : (digits : List ℕ) → AllDigits 10 digits → IsPlain digits
plain-digits [] all = tt
plain-digits (c ∷ cs) all = let range = digit_from_value c all.0 in (omega (arith, range.0), plain-digits cs all.1)

pub plain-decimal : (n : ℕ) → n < 2 ^ 64 → IsPlain (decimal n)
plain-decimal n small = plain-digits (decimal n) (decimal_is_IsNumeral n small).0.1
