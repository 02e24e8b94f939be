-- The lines of an input.
use Rattle.std.specs.Prelude.{◌≡◌, ℕ, ◌==◌, if◌then◌else◌, List, [], ◌∷◌, take, Option, None, Some, ⊤, IsSomeAnd}

-- a byte at the front of the first line
abbrev pub onto_first : ℕ → List (List ℕ) → List (List ℕ)
onto_first byte [] = (byte ∷ []) ∷ []
onto_first byte (line ∷ lines) = (byte ∷ line) ∷ lines

-- the lines, each without the LF that ends it, which the last may lack
abbrev pub lines_of : List ℕ → List (List ℕ)
lines_of [] = []
lines_of (byte ∷ bytes) = if byte == 10 then [] ∷ lines_of bytes else onto_first byte (lines_of bytes)

-- Known bytes lose their first line, of which the first bytes are kept, at most so many. At their end
-- there is none.
abbrev pub TakesLine : ℕ → Option (List ℕ) → Option (List ℕ) → Option (List ℕ) → Type 0
TakesLine most None left line = ⊤
TakesLine most (Some input) left None = (input ≡ []) × (left ≡ Some [])
TakesLine most (Some input) left (Some kept) = IsSomeAnd left (λ rest.
    (line : List ℕ) × (lines_of input ≡ line ∷ lines_of rest) × (kept ≡ take most line))
