-- A line is taken by steps.
use Rattle.std.proofs.Common.{◌≡◌, ℕ, zero, suc, ◌-◌, ◌<◌, List, [], ◌∷◌, ◌++◌, Option, None, Some, length, take, refl, sym, ap, ap₂, subst, ◌∙◌, arith, append_assoc, append-nil, ne_eqb}
use Rattle.std.specs.Io.KnownBytes.{Consumes}
use Rattle.std.proofs.KnownBytes.{Consumes-trans}
use Rattle.textio.specs.declared.line.Step.TheVariants.{Within, Past, End}
use Rattle.textio.specs.Lines.{lines_of, TakesLine}
use Rattle.textio.specs.Pieces.{IsInLine, LosesPiece, kept_with}
use Rattle.textio.proofs.InLine.{IsInLine-append}

take-more : (n : ℕ) (xs ys : List ℕ) → take n xs ++ take (n - length (take n xs)) ys ≡ take n (xs ++ ys)
take-more zero xs ys = refl
take-more (suc n) [] ys = let e : suc n - 0 ≡ suc n = omega arith in rw e refl
take-more (suc n) (x ∷ xs) ys =
    let e : suc n - suc (length (take n xs)) ≡ n - length (take n xs) = omega arith in
    rw e (ap (λ l. x ∷ l) (take-more n xs ys))

take-some : (n : ℕ) (xs : List ℕ) → 0 < length (take n xs) → 0 < length xs
take-some zero xs h = absurd (omega arith)
take-some (suc n) [] h = absurd (omega arith)
take-some (suc n) (x ∷ xs) h = omega arith

take-none : (n : ℕ) (xs : List ℕ) → 0 < n → length (take n xs) ≡ 0 → xs ≡ []
take-none zero xs some h = absurd (omega arith)
take-none (suc n) [] some h = refl
take-none (suc n) (x ∷ xs) some h = absurd (omega arith)

-- an LF ends the first line
pub lines_of-ended : (front rest : List ℕ) → IsInLine front → lines_of (front ++ 10 ∷ rest) ≡ front ∷ lines_of rest
lines_of-ended [] rest h = refl
lines_of-ended (x ∷ front) rest h = rw (ne_eqb x 10 h.0, lines_of-ended front rest h.1) refl

lines_of-last : (front : List ℕ) → IsInLine front → 0 < length front → lines_of front ≡ front ∷ []
lines_of-last [] h some = absurd (omega arith)
lines_of-last (x ∷ []) h some = rw (ne_eqb x 10 h.0) refl
lines_of-last (x ∷ y ∷ front) h some = rw (ne_eqb x 10 h.0, lines_of-last (y ∷ front) h.1 (omega arith)) refl

-- bytes of a line were taken, and the first of them kept
abbrev pub HasBegun : ℕ → Option (List ℕ) → Option (List ℕ) → List ℕ → Type 0
HasBegun most input left line = (front : List ℕ) × IsInLine front × Consumes input left front × (line ≡ take most front)

pub HasBegun-within : (most : ℕ) (input mid left : Option (List ℕ)) (old new : List ℕ) → HasBegun most input mid old → LosesPiece most Within mid left old new → HasBegun most input left new
HasBegun-within most input mid left old new (front, in_line, taken, kept) (more, (more_in_line, grown), more_taken, end) = (
  front ++ more,
  IsInLine-append front more in_line more_in_line,
  Consumes-trans input mid left front more taken more_taken,
  grown ∙ ap (λ line. kept_with most line more) kept ∙ take-more most front more,
)

pub TakesLine-past : (most : ℕ) (input mid left : Option (List ℕ)) (old new : List ℕ) → HasBegun most input mid old → LosesPiece most Past mid left old new → TakesLine most input left (Some new)
TakesLine-past most None mid left old new begun piece = tt
TakesLine-past most (Some xs) None left old new (front, in_line, taken, kept) piece = absurd taken
TakesLine-past most (Some xs) (Some ys) None old new begun (more, is_piece, more_taken, end) = absurd more_taken
TakesLine-past most (Some xs) (Some ys) (Some zs) old new (front, in_line, taken, kept) (more, (rest, rest_in_line, is, grown), more_taken, end) =
    let split : xs ≡ (front ++ rest) ++ 10 ∷ zs =
    taken ∙ ap (λ l. front ++ l) (more_taken ∙ ap (λ l. l ++ zs) is ∙ append_assoc rest (10 ∷ []) zs) ∙ sym (append_assoc front rest (10 ∷ zs)) in (
      front ++ rest,
      ap lines_of split ∙ lines_of-ended (front ++ rest) zs (IsInLine-append front rest in_line rest_in_line),
      grown ∙ ap (λ line. kept_with most line rest) kept ∙ take-more most front rest,
    )

-- at the end of the input there is a line where a byte of it was kept
pub TakesLine-last : (most : ℕ) (input mid left : Option (List ℕ)) (old new : List ℕ) → HasBegun most input mid old → LosesPiece most End mid left old new
    → 0 < length new → TakesLine most input left (Some new)
TakesLine-last most None mid left old new begun piece some = tt
TakesLine-last most (Some xs) None left old new (front, in_line, taken, kept) piece some = absurd taken
TakesLine-last most (Some xs) (Some ys) None old new begun (more, is_piece, more_taken, end) some = absurd more_taken
TakesLine-last most (Some xs) (Some ys) (Some zs) old new (front, in_line, taken, kept) (more, (is, same), more_taken, end) some =
    let none_left : ys ≡ [] = end refl in
    let none_after : zs ≡ [] = sym (sym none_left ∙ more_taken ∙ ap (λ l. l ++ zs) is) in
    let all : xs ≡ front = taken ∙ ap (λ l. front ++ l) none_left ∙ append-nil front in
    let line : new ≡ take most front = same ∙ kept in (
      front,
      ap lines_of all ∙ lines_of-last front in_line (take-some most front (subst (λ l. 0 < length l) line some)) ∙ ap (λ l. front ∷ lines_of l) (sym none_after),
      line,
    )

pub TakesLine-none : (most : ℕ) (input mid left : Option (List ℕ)) (old new : List ℕ) → HasBegun most input mid old → LosesPiece most End mid left old new
    → 0 < most → length new ≡ 0 → TakesLine most input left None
TakesLine-none most None mid left old new begun piece room none = tt
TakesLine-none most (Some xs) None left old new (front, in_line, taken, kept) piece room none = absurd taken
TakesLine-none most (Some xs) (Some ys) None old new begun (more, is_piece, more_taken, end) room none = absurd more_taken
TakesLine-none most (Some xs) (Some ys) (Some zs) old new (front, in_line, taken, kept) (more, (is, same), more_taken, end) room none =
    let none_left : ys ≡ [] = end refl in
    let none_after : zs ≡ [] = sym (sym none_left ∙ more_taken ∙ ap (λ l. l ++ zs) is) in (
      taken ∙ ap₂ (λ (l m : List ℕ). l ++ m) (take-none most front room (subst (λ l. length l ≡ 0) (same ∙ kept) none)) none_left,
      ap Some none_after,
    )
