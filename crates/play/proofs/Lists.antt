-- What is true of each element of a list.
use Rattle.std.proofs.Common.{Bool, true, false, cond, List, [], ◌∷◌, ◌++◌, Contains}
use Rattle.std.specs.Prelude.{filter}
use Rattle.std.specs.List.{AllByRecursion}
use Rattle.book.proofs.Members.{first-there, later-there}

module _ {X : Type 0} (R : X → Type 0) where
  pub both : (xs ys : List X) → AllByRecursion R xs → AllByRecursion R ys → AllByRecursion R (xs ++ ys)
  both [] ys is also = also
  both (x ∷ xs) ys is also = (is.0, both xs ys is.1 also)

  pub all-in : (xs : List X) → ((x : X) → Contains xs x → R x) → AllByRecursion R xs
  all-in [] each = tt
  all-in (x ∷ xs) each = (each x (first-there x xs), all-in xs (λ y there. each y (later-there x xs y there)))

  pub filtered : (test : X → Bool) (xs : List X) → AllByRecursion R xs → AllByRecursion R (filter test xs)
  filtered test [] is = tt
  filtered test (x ∷ xs) is = by (test x) (filtered test xs is.1)
    where
      by : (b : Bool) → AllByRecursion R (filter test xs) → AllByRecursion R (cond b (x ∷ filter test xs) (filter test xs))
      by true rest = (is.0, rest)
      by false rest = rest

pub each-so : {X : Type 0} (R S : X → Type 0) → ((x : X) → R x → S x) → (xs : List X) → AllByRecursion R xs → AllByRecursion S xs
each-so R S leads [] is = tt
each-so R S leads (x ∷ xs) is = (leads x is.0, each-so R S leads xs is.1)
