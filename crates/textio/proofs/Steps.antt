-- Steps through a line.
use Rattle.std.proofs.Common.{◌≡◌, ℕ, ◌-◌, List, [], ◌++◌, Option, None, Some, IfSome, length, sym, ap, ◌∙◌, append-nil, take_all, arith}
use Rattle.std.specs.Io.KnownBytes.{IsAtEnd, Keeps}
use Rattle.std.proofs.KnownBytes.{Consumes-nil, Consumes-kept}
use Rattle.textio.specs.declared.line.Step.TheVariants.{Within}
use Rattle.textio.specs.Pieces.{LosesPiece, kept_with}

kept_with-none : (most : ℕ) (line : List ℕ) → kept_with most line [] ≡ line
kept_with-none most line = ap (λ bytes. line ++ bytes) (take_all (most - length line) [] (omega arith)) ∙ append-nil line

-- a step that was interrupted takes nothing
pub LosesPiece-none : (most : ℕ) (input left : Option (List ℕ)) (line : List ℕ) → Keeps input left → LosesPiece most Within input left line line
LosesPiece-none most input left line kept = ([], (tt, sym (kept_with-none most line)), Consumes-kept input input left [] (Consumes-nil input) kept, λ e. cc)

pub IsAtEnd-shown : (input : Option (List ℕ)) (shown : List ℕ) → IfSome input (λ xs. length shown ≡ 0 → xs ≡ []) → length shown ≡ 0 → IsAtEnd input
IsAtEnd-shown None shown h none = tt
IsAtEnd-shown (Some xs) shown h none = h none
