-- Where the parts of a form lie in its bytes.
use Rattle.std.specs.Prelude.{◌≡◌, ℕ, ◌+◌, ◌≤◌, List, true, false, Option, None, Some, drop, length, take}
use Rattle.encoding.specs.Policies.{policy_byte}
use Rattle.encoding.specs.declared.bound_key.BoundKey.{BoundKey}
use Rattle.encoding.specs.declared.policy.Policy.{Policy}
use Rattle.rootchain.specs.Bodies.{body_bytes}
use Rattle.rootchain.specs.Promises.{promise_bytes}
use Rattle.rootchain.specs.declared.signed_promise.SignedPromise.{SignedPromise}
use Rattle.rootchain.specs.declared.signed_root.SignedRoot.{SignedRoot}
use Rattle.proofs.specs.Replies.{Reply}
use Rattle.coniks.specs.declared.parts.Binding.{Binding}
use Rattle.coniks.specs.declared.parts.Part.{Part}
use Rattle.coniks.specs.declared.parts.PromiseParts.{PromiseParts}
use Rattle.coniks.specs.declared.parts.ReplyParts.{ReplyParts}
use Rattle.coniks.specs.declared.parts.RootParts.{RootParts}

-- a part lies within the bytes, and these stand there
abbrev pub IsPart : List ℕ → Part → List ℕ → Type 0
IsPart bytes part piece = (part.start + part.len ≤ length bytes) × (take part.len (drop part.start bytes) ≡ piece)

-- the parts of a signed root that the bytes spell
pub record ShowsRoot (bytes : List ℕ) (signed : SignedRoot) (parts : RootParts) : Type 0 where
  pub epoch : parts.epoch ≡ signed.body.epoch
  pub previous_epoch : parts.previous_epoch ≡ signed.body.previous_epoch
  pub body : IsPart bytes parts.body (body_bytes signed.body)
  pub vuf_key : IsPart bytes parts.vuf_key signed.body.vuf_key
  pub signature : IsPart bytes parts.signature signed.signature

-- the parts of a reply that the bytes spell
pub record ShowsReply (bytes : List ℕ) (reply : Reply) (parts : ReplyParts) : Type 0 where
  pub epoch : parts.epoch ≡ reply.body.epoch
  pub body : IsPart bytes parts.body (body_bytes reply.body)
  pub vuf_key : IsPart bytes parts.vuf_key reply.body.vuf_key
  pub value : IsPart bytes parts.value reply.value

-- the byte of a policy, or 0
abbrev pub policy_code : Option Policy → ℕ
policy_code None = 0
policy_code (Some policy) = policy_byte policy

-- what an accepted reply states of the name
abbrev pub ShowsStatement : List ℕ → Option BoundKey → Binding → Type 0
ShowsStatement bytes None binding = (binding.is_present ≡ false) × (binding.policy ≡ 0) × (binding.key.start ≡ 0) × (binding.key.len ≡ 0)
ShowsStatement bytes (Some key) binding = (binding.is_present ≡ true) × (binding.policy ≡ policy_code key.policy) × IsPart bytes binding.key key.value

-- the parts of a signed promise that the bytes spell
pub record ShowsPromise (bytes : List ℕ) (signed : SignedPromise) (parts : PromiseParts) : Type 0 where
  pub epoch : parts.epoch ≡ signed.promise.epoch
  pub body_hash : IsPart bytes parts.body_hash signed.promise.body_hash
  pub promise : IsPart bytes parts.promise (promise_bytes signed.promise)
  pub signature : IsPart bytes parts.signature signed.signature
  pub name : IsPart bytes parts.name signed.promise.name
  pub key : IsPart bytes parts.key signed.promise.key.value
  pub policy : parts.policy ≡ policy_code signed.promise.key.policy
