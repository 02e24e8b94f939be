-- What a caller says of its own schemes.
use Rattle.std.specs.Prelude.{◌↔◌, ℕ, List, Bool, IsTrue, ⊤}
use Rattle.rootchain.specs.declared.body.Body.{Body}
use Rattle.proofs.specs.Replies.{Reply, SpellsReply}

-- everything is accepted, and everything verifies
abbrev pub any : List ℕ → List ℕ → List ℕ → Type 0
any key name value = ⊤

-- a value is accepted exactly if the caller says so
abbrev pub told : Bool → List ℕ → List ℕ → List ℕ → Type 0
told is key name value = IsTrue is

-- what the caller says of the reply that the bytes spell is right: its value is accepted for the name under the body's key
-- exactly if the caller says so
abbrev pub IsRight : (List ℕ → List ℕ → List ℕ → Type 0) → Body → List ℕ → List ℕ → Bool → Type 0
IsRight accepted body name bytes is = (reply : Reply) → SpellsReply bytes reply → IsTrue is ↔ accepted body.vuf_key name reply.value
