-- Lists that are changed by one element, or lose some.
use Rattle.std.specs.Prelude.{◌≡◌, ◌≢◌, ◌⊎◌, List, [], ◌∷◌, ◌++◌, All, ⊤}
use Rattle.std.specs.List.{AllByRecursion}

-- no element is there twice
abbrev pub HasNoRepeat : {A : Type 0} → List A → Type 0
HasNoRepeat [] = ⊤
HasNoRepeat (x ∷ more) = AllByRecursion (λ other. x ≢ other) more × HasNoRepeat more

-- the elements that have the property are left, in order
abbrev pub IsLeft : {A : Type 0} → (A → Type 0) → List A → List A → Type 0
IsLeft Stays [] after = after ≡ []
IsLeft {A} Stays (x ∷ more) after = (Stays x × ((rest : List A) × (after ≡ x ∷ rest) × IsLeft Stays more rest)) ⊎ (¬ Stays x × IsLeft Stays more after)

-- an element is joined to the one that has its key, or is put behind the others if none has it
abbrev pub Puts : {A K : Type 0} → (A → K) → (A → A → A) → A → List A → List A → Type 0
Puts {A} key joined new before after =
    ((front : List A) × (kept : A) × (behind : List A) × (before ≡ front ++ kept ∷ behind) × (key kept ≡ key new) × (after ≡ front ++ joined kept new ∷ behind))
    ⊎ (All (λ kept. key kept ≢ key new) before × (after ≡ before ++ new ∷ []))
