-- A word is a number where it is what decimal digits write of one.
use Rattle.std.proofs.Common.{◌≡◌, ◌≢◌, ℕ, ◌^◌, ◌<◌, ◌≤◌, List, Option, Some, None, Bool, true, false, Ok, Result, ap, sym, refl, ◌∙◌, subst, arith, nat_le, ◌&&◌, if◌then◌else◌}
use Rattle.std.specs.Fmt.{decimal}
use Rattle.std.specs.Str.{bytes_eq, IsUtf8}
use Rattle.std.specs.Str.Parse.{digits_value, ParsesUnsigned}
use Rattle.std.proofs.lemmas.Bool.{leb-true, le-leb}
use Rattle.std.proofs.lemmas.Fmt.{decimal_is_IsNumeral, parse-decimal, IsAscii-decimal}
use Rattle.std.proofs.lemmas.Slice.Eq.{bytes_eq-Decides}
use Rattle.std.proofs.lemmas.Str.{IsUtf8-from_ascii}
use Rattle.play.specs.Scripts.{number_word}

abbrev chosen : Bool → ℕ → Option ℕ
chosen good number = if good then Some number else None

pub is_number : (most number : ℕ) (word : List ℕ) → number ≤ most → most < 2 ^ 64 → word ≡ decimal number → number_word most word ≡ Some number
is_number most number word within small is =
    let value : digits_value 10 word ≡ number = ap (digits_value 10) is ∙ (decimal_is_IsNumeral number (omega arith)).1 in
    let same : bytes_eq word (decimal (digits_value 10 word)) ≡ true = (bytes_eq-Decides word (decimal (digits_value 10 word))).1 (is ∙ ap decimal (sym value)) in
    let fits : nat_le (digits_value 10 word) most ≡ true = le-leb (digits_value 10 word) most (omega (arith, value, within)) in
    ap (λ good. chosen (good && nat_le (digits_value 10 word) most) (digits_value 10 word)) same
    ∙ ap (λ good. chosen good (digits_value 10 word)) fits
    ∙ ap (λ n. Some n) value

pub no_number : (most : ℕ) (word : List ℕ) → ((number : ℕ) → number ≤ most → word ≢ decimal number) → number_word most word ≡ None
no_number most word none = by_case (bytes_eq word (decimal (digits_value 10 word))) (nat_le (digits_value 10 word) most) refl refl
  where
    by_case : (same fits : Bool) → bytes_eq word (decimal (digits_value 10 word)) ≡ same → nat_le (digits_value 10 word) most ≡ fits → number_word most word ≡ None
    by_case true true e f = absurd (none (digits_value 10 word) (leb-true (digits_value 10 word) most f) ((bytes_eq-Decides word (decimal (digits_value 10 word))).0 e))
    by_case true false e f = ap (λ good. chosen (good && nat_le (digits_value 10 word) most) (digits_value 10 word)) e ∙ ap (λ good. chosen good (digits_value 10 word)) f
    by_case false fits e f = ap (λ good. chosen (good && nat_le (digits_value 10 word) most) (digits_value 10 word)) e

-- what decimal digits write is UTF-8, and is parsed as the number
pub decimal_is_utf8 : (number : ℕ) (word : List ℕ) → number < 2 ^ 64 → word ≡ decimal number → IsUtf8 word
decimal_is_utf8 number word small is = subst IsUtf8 (sym is) (IsUtf8-from_ascii (decimal number) (IsAscii-decimal number small))

pub is_parsed : {E : Type 0} (number : ℕ) (word : List ℕ) (result : Result ℕ E) → number < 2 ^ 64 → word ≡ decimal number → ParsesUnsigned 64 10 word result → result ≡ Ok number
is_parsed number word result small is parsed = parse-decimal 64 number word result small small is parsed

pub the_number : {E : Type 0} {a b : ℕ} → ◌≡◌ {A = Result ℕ E} (Ok a) (Ok b) → a ≡ b
the_number same = cc
