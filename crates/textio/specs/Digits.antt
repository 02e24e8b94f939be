-- Hexadecimal digits.
use Rattle.std.specs.Prelude.{ℕ, List, Option, None, Some, nat_lt, if◌then◌else◌, replicate}
use Rattle.std.specs.Result.{result_ok}
use Rattle.hex.specs.Hex.{decode_sized}

-- the value of a digit, from a table in which greater numbers stand for bytes that are no digits
abbrev pub digit_of : ℕ → Option ℕ
digit_of value = if nat_lt value 16 then Some value else None

-- 32 bytes, from 64 hexadecimal digits of either case
abbrev pub hex32 : List ℕ → Option (List ℕ)
hex32 text = result_ok (decode_sized text 32)

-- 32 bytes from the text of an option that may be left out: zeros where it is
abbrev pub hex32_or_zeros : Option (List ℕ) → Option (List ℕ)
hex32_or_zeros None = Some (replicate 32 0)
hex32_or_zeros (Some text) = hex32 text
