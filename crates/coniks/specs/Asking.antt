-- What is put into a buffer to ask a directory.
use Rattle.std.specs.Prelude.{◌≡◌, ◌⊎◌, ℕ, ◌<◌, ◌≤◌, List, Bool, true, false, Option, None, Some, length}
use Rattle.encoding.specs.Limits.{IsKeyData, IsName}
use Rattle.encoding.specs.Policies.{policy_of}
use Rattle.encoding.specs.declared.policy.Policy.{Policy}
use Rattle.commands.specs.Operations.{Head, History, Lookup, Promise}
use Rattle.commands.specs.declared.edit.Verb.{Verb}
use Rattle.commands.specs.declared.edit.Verb.TheVariants.{Change, Register}
use Rattle.wire.specs.Frames.{frame_bytes}
use Rattle.wire.specs.Requests.{request_frame, Put, Query, RequestContent, Turn}
use Rattle.coniks.specs.Comparing.{IsPut}

-- a buffer, and how much of it a frame takes
pub record Buffer : Type 0 where
  pub bytes : List ℕ
  pub len : ℕ

-- the frame of this request is put into the buffer
abbrev pub Writes : RequestContent → ℕ → Buffer → Buffer → Type 0
Writes asked answer before after = (answer ≡ 0) × IsPut (frame_bytes (request_frame asked)) before.bytes after.bytes after.len

-- this is the answer, and nothing is put
abbrev pub Refuses : ℕ → ℕ → Buffer → Buffer → Type 0
Refuses number answer before after = (answer ≡ number) × (after.bytes ≡ before.bytes) × (after.len ≡ before.len)

-- 13, the buffer is too short, or else this
abbrev pub WithBuffer : (ℕ → Buffer → Buffer → Type 0) → ℕ → Buffer → Buffer → Type 0
WithBuffer Rest answer before after = ((length before.bytes < 2400) × Refuses 13 answer before after) ⊎ ((2400 ≤ length before.bytes) × Rest answer before after)

-- 8, the name is none, or else this
abbrev pub OfName : List ℕ → (ℕ → Buffer → Buffer → Type 0) → ℕ → Buffer → Buffer → Type 0
OfName name Rest answer before after = ((¬ IsName name) × Refuses 8 answer before after) ⊎ (IsName name × Rest answer before after)

-- 24, the key is none, or else this
abbrev pub OfKey : List ℕ → (ℕ → Buffer → Buffer → Type 0) → ℕ → Buffer → Buffer → Type 0
OfKey key Rest answer before after = ((¬ IsKeyData key) × Refuses 24 answer before after) ⊎ (IsKeyData key × Rest answer before after)

-- the policy that a byte asks for: none by 0
abbrev pub PolicyAsked : ℕ → Option ℕ → Type 0
PolicyAsked byte asked = ((byte ≡ 0) × (asked ≡ None)) ⊎ ((policy : Policy) × (policy_of byte ≡ Some policy) × (asked ≡ Some byte))

-- 25, the byte is neither 0 nor a policy's, or else this
abbrev pub OfPolicy : ℕ → (Option ℕ → ℕ → Buffer → Buffer → Type 0) → ℕ → Buffer → Buffer → Type 0
OfPolicy byte Rest answer before after =
    (((asked : Option ℕ) → ¬ PolicyAsked byte asked) × Refuses 25 answer before after) ⊎ ((asked : Option ℕ) × PolicyAsked byte asked × Rest asked answer before after)

-- to change a key, or to register one
abbrev pub verb_asked : Bool → Verb
verb_asked true = Change
verb_asked false = Register

-- a key is asked for a name, or is to take the place of its key
abbrev pub WritesPut : Bool → List ℕ → List ℕ → ℕ → ℕ → Buffer → Buffer → Type 0
WritesPut is_change name key policy = WithBuffer (OfName name (OfKey key (OfPolicy policy (λ asked. Writes (Put (verb_asked is_change) name (key, asked))))))

abbrev pub WritesPromise : List ℕ → ℕ → Buffer → Buffer → Type 0
WritesPromise name = WithBuffer (OfName name (Writes (Query (Promise name))))

abbrev pub WritesLookup : List ℕ → ℕ → ℕ → Buffer → Buffer → Type 0
WritesLookup name epoch = WithBuffer (OfName name (Writes (Query (Lookup name epoch))))

abbrev pub WritesHistory : ℕ → ℕ → ℕ → Buffer → Buffer → Type 0
WritesHistory from count = WithBuffer (Writes (Query (History from count)))

abbrev pub WritesHead : ℕ → Buffer → Buffer → Type 0
WritesHead = WithBuffer (Writes (Query Head))

-- the nonce that bytes ask for: none by no bytes
abbrev pub NonceAsked : List ℕ → Option (List ℕ) → Type 0
NonceAsked bytes asked = ((length bytes ≡ 0) × (asked ≡ None)) ⊎ ((length bytes ≡ 32) × (asked ≡ Some bytes))

-- the epoch is to end: 26, the token has not 32 bytes; 27, the nonce has neither 32 bytes nor none
abbrev pub WritesTurn : List ℕ → ℕ → List ℕ → ℕ → Buffer → Buffer → Type 0
WritesTurn token epoch nonce = WithBuffer (λ answer before after.
    ((¬ (length token ≡ 32)) × Refuses 26 answer before after)
    ⊎ ((length token ≡ 32) × ((((asked : Option (List ℕ)) → ¬ NonceAsked nonce asked) × Refuses 27 answer before after)
    ⊎ ((asked : Option (List ℕ)) × NonceAsked nonce asked × Writes (Turn token epoch asked) answer before after))))
