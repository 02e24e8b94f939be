-- What came of a call, and what that leads to.
use Rattle.std.specs.Prelude.{Err, Ok, OnOk, Result}

-- what holds on success leads to something else
pub ok_then : {A E P Q : Type 0} (result : Result A E) → OnOk result P → (P → Q) → OnOk result Q
ok_then (Ok done) holds leads = leads holds
ok_then (Err why) holds leads = tt
