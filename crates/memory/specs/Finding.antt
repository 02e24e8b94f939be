-- What comes of looking for something.
use Rattle.std.specs.Prelude.{Option, None, Some}

-- something that has the property, or nothing, where nothing has it
abbrev pub Finds : {A : Type 0} → (A → Type 0) → Option A → Type 0
Finds {A} Is None = (x : A) → ¬ Is x
Finds Is (Some x) = Is x
