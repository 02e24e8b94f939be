-- A list as all but its last, and its last.
use Rattle.std.specs.Prelude.{List, [], ◌∷◌}

-- all but the last
abbrev pub all_but_last : {X : Type 0} → List X → List X
all_but_last [] = []
all_but_last (x ∷ []) = []
all_but_last (x ∷ y ∷ more) = x ∷ all_but_last (y ∷ more)

-- the last, or the given one where there is none
abbrev pub final : {X : Type 0} → X → List X → X
final none [] = none
final none (x ∷ more) = final x more
