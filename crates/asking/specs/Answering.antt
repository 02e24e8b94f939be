-- What is asked of a directory that runs, and what answers it.
use Rattle.std.specs.Prelude.{◌≡◌, ◌≢◌, ◌≤◌, ◌⊎◌, ℕ, List, length, Option, None, Some, ⊤}
use Rattle.std.specs.List.{AllByRecursion}
use Rattle.encoding.specs.Limits.{IsName}
use Rattle.commands.specs.Operations.{asked_key, Promise, Lookup, History, Head}
use Rattle.wire.specs.Requests.{RequestContent, Query, Put, Turn}
use Rattle.wire.specs.Responses.{ResponseContent, Proof, Roots, Root}
use Rattle.wire.specs.Responses as response
use Rattle.rootchain.specs.declared.signed_root.SignedRoot.{SignedRoot}

-- a root of this epoch, and of this nonce if one was asked for
abbrev pub IsOfTurn : ℕ → Option (List ℕ) → SignedRoot → Type 0
IsOfTurn epoch None root = root.body.epoch ≡ epoch
IsOfTurn epoch (Some nonce) root = (root.body.epoch ≡ epoch) × (root.body.nonce ≡ nonce)

-- the response is one to the request: of its kind, and about what it names; roots are of the epochs that were asked for
abbrev pub IsAnswerTo : RequestContent → ResponseContent → Type 0
IsAnswerTo (Put verb name key) (response.Promise signed) = (signed.promise.name ≡ name) × (asked_key signed.promise.key ≡ key)
IsAnswerTo (Query (Promise name)) (response.Promise signed) = signed.promise.name ≡ name
IsAnswerTo (Query (Lookup name epoch)) (Proof reply) = IsName name × ((epoch ≡ 0) ⊎ (reply.body.epoch ≡ epoch))
IsAnswerTo (Query (History from count)) (Roots roots) = (length roots ≤ count) × AllByRecursion (λ root. from ≤ root.body.epoch) roots
IsAnswerTo (Query Head) (Root root) = Unit {0}
IsAnswerTo (Turn token epoch nonce) (Root root) = IsOfTurn epoch nonce root
IsAnswerTo _ _ = ⊥

-- it is over a root that is not older than one of this epoch: a promise, and what is said of the latest epoch
abbrev pub IsTimely : ℕ → RequestContent → ResponseContent → Type 0
IsTimely held asked (response.Promise signed) = held ≤ signed.promise.epoch
IsTimely held (Query (Lookup name epoch)) (Proof reply) = (epoch ≢ 0) ⊎ (held ≤ reply.body.epoch)
IsTimely held _ _ = ⊤

-- the response is one to a request that was made when the chain had a head of this epoch
abbrev pub IsAnswerAt : ℕ → RequestContent → ResponseContent → Type 0
IsAnswerAt held asked responded = IsAnswerTo asked responded × IsTimely held asked responded
