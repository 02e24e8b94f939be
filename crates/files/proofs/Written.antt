-- A line that is told of a file, or less of it.
use Rattle.std.proofs.Common.{ℕ, List, [], Option, Result, Ok, Err, refl}
use Rattle.std.specs.Prelude.{IfOk}
use Rattle.std.proofs.KnownBytes.{Appends-nil}
use Rattle.textio.specs.Output.{WritesSome}

pub none_told : (contents : Option (List ℕ)) (text : List ℕ) → WritesSome contents contents text
none_told contents text = (text, ([], refl, Appends-nil contents))

pub some_words : {A E : Type 0} (Holds : List ℕ → A → Type 0) (words : List ℕ) (result : Result A E) → IfOk result (Holds words) → IfOk result (λ a. (some : List ℕ) × Holds some a)
some_words Holds words (Ok a) holds = (words, holds)
some_words Holds words (Err error) holds = tt
