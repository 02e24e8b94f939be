-- What a memory loses.
use Rattle.std.specs.Prelude.{◌≡◌, ◌≢◌, ◌⊎◌, ℕ, List, All, Any, IsTrue}
use Rattle.rootchain.specs.declared.signed_promise.SignedPromise.{SignedPromise}
use Rattle.memory.specs.Lists.{IsLeft}
use Rattle.memory.specs.Memories.{Memory}
use Rattle.memory.specs.Watching.{IsAwaited}
use Rattle.memory.specs.declared.alarm.Alarm.{Alarm}
use Rattle.memory.specs.declared.mark.Mark.{Mark}
use Rattle.memory.specs.declared.promised.Promised.{Promised}

-- the promise is still to be tested, or it is the owner's own and awaited by a mark of its name
abbrev pub IsNeeded : List SignedPromise → List Mark → Promised → Type 0
IsNeeded tested marks promised = All (λ other. other ≢ promised.signed) tested ⊎ (IsTrue promised.is_own × Any (IsAwaited promised.signed) marks)

-- the promises that are needed are left, where these were tested
abbrev pub Leaves : List SignedPromise → Memory → Memory → Type 0
Leaves tested before after = IsLeft (IsNeeded tested before.marks) before.promises after.promises × (after ≡ record before { promises = after.promises })

-- the alarms of other names are left
abbrev pub Settles : List ℕ → Memory → Memory → Type 0
Settles name before after = IsLeft (λ (alarm : Alarm). alarm.name ≢ name) before.alarms after.alarms × (after ≡ record before { alarms = after.alarms })
