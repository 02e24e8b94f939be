-- Whether each record was kept, as a keeper: what is told of a run where no keeper is seen. And a keeper that
-- keeps nothing.
use Rattle.std.specs.Prelude.{◌≡◌, Bool, true, false, List, ◌∷◌, ⊤}
use Rattle.book.specs.declared.keeper.NoKeeper.{NoKeeper}
use Rattle.book.specs.declared.record.Record.{Record}

-- the next record is kept
abbrev pub keeps_next : List Bool → Record → List Bool → Type 0
keeps_next keeps what rest = keeps ≡ true ∷ rest

-- the next record is not kept
abbrev pub fails_next : List Bool → Record → List Bool → Type 0
fails_next keeps what rest = keeps ≡ false ∷ rest

-- nothing is kept, and that never fails
abbrev pub KeepsNothing : NoKeeper → Record → NoKeeper → Type 0
KeepsNothing before what after = ⊤

abbrev pub NeverFails : NoKeeper → Record → NoKeeper → Type 0
NeverFails before what after = ⊥
