-- What a client that asks holds.
use Rattle.std.specs.Prelude.{ℕ, List}
use Rattle.rootchain.specs.declared.signed_promise.SignedPromise.{SignedPromise}
use Rattle.client.specs.Clients.{Client}
use Rattle.memory.specs.Memories.{Memory}
use Rattle.monitor.specs.Monitors.{Monitor}
use Rattle.asking.specs.FinalBindings.{Finals}
use Rattle.asking.specs.declared.asker.Asker.{Asker}
use Rattle.memory.specs.declared.mark.Mark.{Mark}

abbrev pub asker_client : {H V S : Type 0} → Asker H V S → Client
asker_client asker = asker.client

abbrev pub asker_monitors : {H V S : Type 0} → Asker H V S → List Monitor
asker_monitors asker = asker.monitors.items

-- the provider's public key
abbrev pub asker_key : {H V S : Type 0} → Asker H V S → List ℕ
asker_key asker = asker.key

-- the operator's token
abbrev pub asker_token : {H V S : Type 0} → Asker H V S → List ℕ
asker_token asker = asker.token

-- how far names were watched in earlier runs
abbrev pub asker_marks : {H V S : Type 0} → Asker H V S → List Mark
asker_marks asker = asker.marks.items

-- what is remembered of earlier runs
abbrev pub asker_known : {H V S : Type 0} → Asker H V S → Memory
asker_known asker = asker.known

-- what the client was promised for its own changes in earlier runs
abbrev pub asker_earlier : {H V S : Type 0} → Asker H V S → List SignedPromise
asker_earlier asker = asker.earlier.items

-- what it was promised for those of this run
abbrev pub asker_changes : {H V S : Type 0} → Asker H V S → List SignedPromise
asker_changes asker = asker.changes.items

-- what it knows of final bindings
abbrev pub asker_finals : {H V S : Type 0} → Asker H V S → Finals
asker_finals asker = asker.finals
