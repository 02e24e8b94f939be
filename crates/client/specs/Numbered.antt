-- Looks that are stored in another order, each under its number.
use Rattle.std.specs.Prelude.{◌≡◌, ℕ, zero, suc, ◌<◌, List, [], ◌++◌, length, map, nat_eq, Bool}
use Rattle.std.specs.List.{AllByRecursion, filter}

module _ {K X : Type 0} (number : K → ℕ) where
  -- the entry has this number
  abbrev pub is_numbered : ℕ → K × X → Bool
  is_numbered n entry = nat_eq (number entry.0) n

  -- each number below that of the entries is that of one entry, and no entry has another
  pub record AreNumbered (entries : List (K × X)) : Type 0 where
    pub each : (n : ℕ) → n < length entries → length (filter (is_numbered n) entries) ≡ 1
    pub below : AllByRecursion (λ entry. number entry.0 < length entries) entries

  module _ {L : Type 0} (look : K × X → L) (entries : List (K × X)) where
    -- what is stored under the numbers below this one, in their order
    abbrev pub first_numbered : ℕ → List L
    first_numbered zero = []
    first_numbered (suc n) = first_numbered n ++ map look (filter (is_numbered n) entries)

    -- and under all of them
    abbrev pub all_numbered : List L
    all_numbered = first_numbered (length entries)
