-- The lines of a script, as they are read.
use Rattle.std.specs.Prelude.{◌≡◌, ℕ, List, [], ◌∷◌, ◌++◌, Bool, true, false, Option, Some, None, ⊤, ◌⊎◌, IsSomeAnd}
use Rattle.std.specs.Io.{StopsAt}
use Rattle.std.specs.Io.KnownBytes.{Consumes}
use Rattle.textio.specs.Lines.{lines_of}

-- known bytes lose their first line, which is this one without its LF, if there is one; at their end there is
-- none
abbrev pub TakesWholeLine : Option (List ℕ) → Option (List ℕ) → Bool → List ℕ → Type 0
TakesWholeLine None left more line = ⊤
TakesWholeLine (Some input) left false line = input ≡ []
TakesWholeLine (Some input) left true line = IsSomeAnd left (λ rest. lines_of input ≡ line ∷ lines_of rest)

-- known bytes lose these, which have no LF but at their end
abbrev pub TakesBeginning : Option (List ℕ) → Option (List ℕ) → List ℕ → Type 0
TakesBeginning input left part = Consumes input left part × StopsAt part 10

-- without the LF at the end, if one is there
abbrev pub IsTrimmed : List ℕ → List ℕ → Type 0
IsTrimmed old new = (old ≡ new ++ 10 ∷ []) ⊎ ((new ≡ old) × ((front : List ℕ) → ¬ (old ≡ front ++ 10 ∷ [])))
