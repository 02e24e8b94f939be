-- The promise that the code found to be tested.
use Rattle.std.specs.Prelude.{ℕ, List, Option, Some, None}
use Rattle.std.specs.Borrow.{Bor}
use Rattle.rootchain.specs.declared.signed_promise.SignedPromise.{SignedPromise}
use Rattle.client.specs.Dues.{HasNone, IsTested}

-- it is the one that is tested for the name, or there is none
abbrev pub IsTestedAmong : List SignedPromise → List ℕ → Option (ℕ × Bor SignedPromise) → Type 0
IsTestedAmong promises name None = HasNone promises name
IsTestedAmong promises name (Some (place, signed)) = IsTested promises name place signed.now
