-- What is found of two replies where a hash is the byte sum and the value of a name is the name.
use Rattle.std.specs.Prelude.{◌≡◌, ℕ, List, Result, Ok, Err, ⊤}
use Rattle.nodehash.specs.Digests.{byte_sum}
use Rattle.rootchain.specs.declared.body.Body.{Body}
use Rattle.vrfiface.specs.StandIns.{plain_value}
use Rattle.proofs.specs.Comparisons.{Compares}
use Rattle.proofs.specs.declared.comparing.RefusedReply.{RefusedReply}
use Rattle.proofs.specs.declared.comparing.SameOr.{SameOr}
use Rattle.proofs.specs.declared.comparing.SameOr.TheVariants.{NotComparable, Same, TwoValues, Collision}

-- the answer on two replies for one name under one body
abbrev pub ComparesByStandIns : Body → List ℕ → List ℕ → List ℕ → Result SameOr RefusedReply → Type 0
ComparesByStandIns = Compares byte_sum (λ key name value. value ≡ plain_value key name)

-- the answer has no collision
abbrev pub IsNoCollision : Result SameOr RefusedReply → Type 0
IsNoCollision (Ok (Collision x y)) = ⊥
IsNoCollision (Ok NotComparable) = ⊤
IsNoCollision (Ok Same) = ⊤
IsNoCollision (Ok TwoValues) = ⊤
IsNoCollision (Err refused) = ⊤
