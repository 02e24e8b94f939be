-- A table of the values of hexadecimal digits, and bytes that are decoded by it.
use Rattle.std.proofs.Common.{◌≡◌, ℕ, zero, suc, ◌+◌, ◌*◌, ◌<◌, ◌≤◌, ◌==◌, Bool, true, false, ◌&&◌, List, [], ◌∷◌, length, slice_index, Option, Some, None, unwrap_or, Result, Ok, Err, refl, sym, ap, ◌∙◌, arith, add-zero}
use Rattle.std.proofs.lemmas.Bool.{and_parts, eqb-true}
use Rattle.std.specs.Result.{result_ok}
use Rattle.hex.specs.Hex.{decode_sized, digit_or_error, hex_digit_value, pair_value, value_at}
use Rattle.hex.specs.declared.error.FromHexError.{FromHexError}
use Rattle.hex.specs.declared.error.FromHexError.TheVariants.{InvalidHexCharacter}
use Rattle.textio.specs.Digits.{digit_of}

abbrev is_same : Option ℕ → Option ℕ → Bool
is_same (Some x) (Some y) = x == y
is_same (Some x) None = false
is_same None (Some y) = false
is_same None None = true

same : (x y : Option ℕ) → is_same x y ≡ true → x ≡ y
same (Some x) (Some y) h = ap Some (eqb-true x y h)
same (Some x) None h = cc h
same None (Some y) h = cc h
same None None h = refl

-- the test of a table from this byte on, which computes
abbrev pub reads : List ℕ → ℕ → Bool
reads [] byte = true
reads (value ∷ values) byte = is_same (digit_of value) (hex_digit_value byte) && reads values (byte + 1)

pub table-at : (values : List ℕ) (byte k : ℕ) → reads values byte ≡ true → k < length values → digit_of (slice_index values k) ≡ hex_digit_value (byte + k)
table-at [] byte k h below = absurd (omega arith)
table-at (value ∷ values) byte zero h below =
    let parts = and_parts (is_same (digit_of value) (hex_digit_value byte)) (reads values (byte + 1)) h in
    same _ _ parts.0 ∙ ap hex_digit_value (sym (add-zero byte))
table-at (value ∷ values) byte (suc k) h below =
    let parts = and_parts (is_same (digit_of value) (hex_digit_value byte)) (reads values (byte + 1)) h in
    let next : byte + 1 + k ≡ byte + suc k = omega arith in
    table-at values (byte + 1) k parts.1 (omega arith) ∙ ap hex_digit_value next

pub ok-some : {A : Type 0} (r : Result A FromHexError) (x : A) → Some x ≡ result_ok r → r ≡ Ok x
ok-some (Ok y) x h = ap (λ o. Ok (unwrap_or o y)) (sym h)
ok-some (Err e) x h = cc h

pub err-none : {A : Type 0} (r : Result A FromHexError) → None ≡ result_ok r → (e : FromHexError) × (r ≡ Err e)
err-none (Ok y) h = cc h
err-none (Err e) h = (e, refl)

pub wrong-size : (text : List ℕ) (n : ℕ) → (length text ≡ n + n → ⊥) → None ≡ result_ok (decode_sized text n)
wrong-size text n h = grind (arith)

-- ---- two digits, by their values

some-digit : (value : ℕ) → value ≤ 15 → digit_of value ≡ Some value
some-digit value few = grind (arith)

none-digit : (value : ℕ) → 15 < value → digit_of value ≡ None
none-digit value many = grind (arith)

digit-at : (digit value place : ℕ) → value ≤ 15 → digit_of value ≡ hex_digit_value digit → value_at digit place ≡ Ok value
digit-at digit value place few is = ap (digit_or_error digit place) (sym is ∙ some-digit value few)

none-at : (digit value place : ℕ) → 15 < value → digit_of value ≡ hex_digit_value digit → value_at digit place ≡ Err (InvalidHexCharacter digit place)
none-at digit value place many is = ap (digit_or_error digit place) (sym is ∙ none-digit value many)

pub pair-read : (high low v w place : ℕ) → v ≤ 15 → w ≤ 15 → digit_of v ≡ hex_digit_value high → digit_of w ≡ hex_digit_value low
    → Some (16 * v + w) ≡ result_ok (pair_value high low place)
pair-read high low v w place few few' eh el =
    let first = digit-at high v place few eh in
    let second = digit-at low w (place + 1) few' el in
    let pair : pair_value high low place ≡ Ok (v * 16 + w) = rw (first, second) refl in
    let same : 16 * v + w ≡ v * 16 + w = omega arith in
    ap Some same ∙ ap result_ok (sym pair)

pub no-high : (high low v place : ℕ) → 15 < v → digit_of v ≡ hex_digit_value high → None ≡ result_ok (pair_value high low place)
no-high high low v place many eh =
    let first = none-at high v place many eh in
    let pair : pair_value high low place ≡ Err (InvalidHexCharacter high place) = rw first refl in
    ap result_ok (sym pair)

pub no-low : (high low v w place : ℕ) → v ≤ 15 → 15 < w → digit_of v ≡ hex_digit_value high → digit_of w ≡ hex_digit_value low
    → None ≡ result_ok (pair_value high low place)
no-low high low v w place few many eh el =
    let first = digit-at high v place few eh in
    let second = none-at low w (place + 1) many el in
    let pair : pair_value high low place ≡ Err (InvalidHexCharacter low (place + 1)) = rw (first, second) refl in
    ap result_ok (sym pair)
