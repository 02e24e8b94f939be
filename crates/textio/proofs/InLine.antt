-- Bytes without an LF.
use Rattle.std.proofs.Common.{◌≡◌, ◌≢◌, ℕ, zero, suc, ◌+◌, ◌*◌, ◌/◌, ◌%◌, ◌<◌, ◌≤◌, ◌==◌, Bool, true, false, cond, List, [], ◌∷◌, ◌++◌, get_or, length, take, Some, Result, Ok, Err, arith, refl, sym, ap, ◌∙◌}
use Rattle.std.proofs.lemmas.List.{take_more}
use Rattle.hex.specs.Hex.{decode_pairs, decode_sized, pair_value, value_at, ◌>>=◌}
use Rattle.hex.specs.declared.error.FromHexError.{FromHexError}
use Rattle.hex.specs.declared.error.FromHexError.TheVariants.{OddLength, InvalidStringLength}
use Rattle.textio.specs.Digits.{hex32}
use Rattle.textio.specs.Pieces.{IsInLine}
use Rattle.textio.proofs.DigitValues.{ok-some}

pub IsInLine-take : (xs : List ℕ) (n : ℕ) → n ≤ length xs → ((j : ℕ) → j < n → get_or xs j 0 ≢ 10) → IsInLine (take n xs)
IsInLine-take [] zero h none = tt
IsInLine-take [] (suc n) h none = absurd (omega arith)
IsInLine-take (x ∷ xs) zero h none = tt
IsInLine-take (x ∷ xs) (suc n) h none = (none 0 (omega arith), IsInLine-take xs n (omega arith) (λ j l. none (suc j) (omega arith)))

pub IsInLine-append : (xs ys : List ℕ) → IsInLine xs → IsInLine ys → IsInLine (xs ++ ys)
IsInLine-append [] ys front back = back
IsInLine-append (x ∷ xs) ys front back = (front.0, IsInLine-append xs ys front.1 back)

-- the bytes up to an LF, and it
pub take-through : (xs : List ℕ) (n : ℕ) → n < length xs → get_or xs n 0 ≡ 10 → take (n + 1) xs ≡ take n xs ++ 10 ∷ []
take-through xs n h at = take_more xs n 0 h ∙ ap (λ x. take n xs ++ x ∷ []) at

-- ---- digits are no LF

high-digit : (high low i v : ℕ) → pair_value high low i ≡ Ok v → high ≢ 10
high-digit high low i v h e = absurd (cc (rw e at h))

low-digit : (high low i v : ℕ) → pair_value high low i ≡ Ok v → low ≢ 10
low-digit high low i v h e = by (value_at high i) (rw e at h)
  where
    by : (first : Result ℕ FromHexError) → (first >>= (λ h. value_at 10 (i + 1) >>= (λ l. Ok (h * 16 + l)))) ≡ Ok v → ⊥
    by (Ok x) h = cc h
    by (Err x) h = cc h

pairs-in_line : (i : ℕ) (text bytes : List ℕ) → decode_pairs i text ≡ Ok bytes → IsInLine text
unfolding decode_pairs
pairs-in_line i [] bytes h = tt
pairs-in_line i (x ∷ []) bytes h = absurd (cc h)
pairs-in_line i (high ∷ low ∷ rest) bytes h = by (pair_value high low i) refl (decode_pairs (i + 2) rest) (λ more is. pairs-in_line (i + 2) rest more is) h
  where
    by : (pair : Result ℕ FromHexError) → pair_value high low i ≡ pair → (more : Result (List ℕ) FromHexError) → ((bytes : List ℕ) → more ≡ Ok bytes → IsInLine rest)
        → (pair >>= (λ byte. more >>= (λ bytes. Ok (byte ∷ bytes)))) ≡ Ok bytes → IsInLine (high ∷ low ∷ rest)
    by (Ok v) is (Ok more) again h = (high-digit high low i v is, (low-digit high low i v is, again more refl))
    by (Ok v) is (Err e) again h = absurd (cc h)
    by (Err e) is more again h = absurd (cc h)

sized-pairs : (text bytes : List ℕ) → decode_sized text 32 ≡ Ok bytes → decode_pairs 0 text ≡ Ok bytes
sized-pairs text bytes h = by (length text % 2 == 1) (length text / 2 == 32) h
  where
    by : (odd fits : Bool) → cond odd (Err OddLength) (cond fits (decode_pairs 0 text) (Err InvalidStringLength)) ≡ Ok bytes → decode_pairs 0 text ≡ Ok bytes
    by true fits h = absurd (cc h)
    by false true h = h
    by false false h = absurd (cc h)

pub hex32-in_line : (text bytes : List ℕ) → hex32 text ≡ Some bytes → IsInLine text
hex32-in_line text bytes h = pairs-in_line 0 text bytes (sized-pairs text bytes (ok-some (decode_sized text 32) bytes (sym h)))
