-- The steps through a line, as a reader's buffer shows it.
use Rattle.std.specs.Prelude.{◌≡◌, ◌≢◌, ℕ, ◌-◌, List, [], ◌∷◌, ◌++◌, length, take, Option}
use Rattle.std.specs.List.{AllByRecursion}
use Rattle.std.specs.Io.KnownBytes.{Consumes, IsAtEnd}
use Rattle.textio.specs.declared.line.Step.{Step}
use Rattle.textio.specs.declared.line.Step.TheVariants.{Within, Past, End}

-- no LF among the bytes
abbrev pub IsInLine : List ℕ → Type 0
IsInLine = AllByRecursion (λ byte. byte ≢ 10)

-- the first bytes of a line, and as many of these bytes as there is room for
abbrev pub kept_with : ℕ → List ℕ → List ℕ → List ℕ
kept_with most line bytes = line ++ take (most - length line) bytes

-- the bytes that a step took, and what it made of the first bytes of the line
abbrev pub IsPiece : ℕ → Step → List ℕ → List ℕ → List ℕ → Type 0
IsPiece most Within taken old new = IsInLine taken × (new ≡ kept_with most old taken)
IsPiece most Past taken old new = (front : List ℕ) × IsInLine front × (taken ≡ front ++ 10 ∷ []) × (new ≡ kept_with most old front)
IsPiece most End taken old new = (taken ≡ []) × (new ≡ old)

-- known bytes lose the piece that a step took
abbrev pub LosesPiece : ℕ → Step → Option (List ℕ) → Option (List ℕ) → List ℕ → List ℕ → Type 0
LosesPiece most step input left old new = (taken : List ℕ) × IsPiece most step taken old new × Consumes input left taken
    × (step ≡ End → IsAtEnd input)

-- known bytes lose less than their first line
abbrev pub LosesPart : Option (List ℕ) → Option (List ℕ) → Type 0
LosesPart input left = (part : List ℕ) × IsInLine part × Consumes input left part
