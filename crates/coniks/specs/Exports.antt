-- What each export answers: 0 or the number of a refusal.
use Rattle.std.specs.Prelude.{◌≡◌, ◌≢◌, ◌⊎◌, ℕ, List, Bool, true, Some, Option, Err}
use Rattle.encoding.specs.Fields.{Spells}
use Rattle.encoding.specs.Limits.{IsName}
use Rattle.encoding.specs.declared.bound_key.BoundKey.{BoundKey}
use Rattle.rootchain.specs.Bodies.{body_bytes, IsBody}
use Rattle.rootchain.specs.Evidence.{IsFork, IsLink, IsSkip}
use Rattle.rootchain.specs.Promises.{SpellsPromise}
use Rattle.rootchain.specs.SignedRoots.{SpellsRoot}
use Rattle.rootchain.specs.declared.body.Body.{Body}
use Rattle.rootchain.specs.declared.evidence.RootEvidence.{RootEvidence}
use Rattle.rootchain.specs.declared.promise.Promise.{Promise}
use Rattle.rootchain.specs.declared.signed_promise.SignedPromise.{SignedPromise}
use Rattle.rootchain.specs.declared.evidence.RootEvidence.TheVariants.{Fork, Link, Skip}
use Rattle.rootchain.specs.declared.signed_root.SignedRoot.{SignedRoot}
use Rattle.proofs.specs.Accepts.{stated, Accepts}
use Rattle.proofs.specs.Comparisons.{IsAcceptedReply, Refuses}
use Rattle.proofs.specs.Refusals.{reply_refusal_number}
use Rattle.proofs.specs.Refusals as refusals
use Rattle.proofs.specs.Replies.{Reply, SpellsReply}
use Rattle.proofs.specs.declared.reply_refusal.Refusal.{Refusal}
use Rattle.coniks.specs.Parts.{ShowsPromise, ShowsReply, ShowsRoot, ShowsStatement}
use Rattle.coniks.specs.Told.{any, told}
use Rattle.coniks.specs.declared.parts.Binding.{Binding}
use Rattle.coniks.specs.declared.parts.PromiseParts.{PromiseParts}
use Rattle.coniks.specs.declared.parts.ReplyParts.{ReplyParts}
use Rattle.coniks.specs.declared.parts.RootParts.{RootParts}

-- a signed root is read
abbrev pub ReadsRoot : List ℕ → ℕ → RootParts → RootParts → Type 0
ReadsRoot bytes answer before after =
    ((signed : SignedRoot) × SpellsRoot bytes signed × (answer ≡ 0) × ShowsRoot bytes signed after)
    ⊎ (((signed : SignedRoot) → ¬ SpellsRoot bytes signed) × (answer ≡ 1) × (after ≡ before))

-- a reply is read
abbrev pub ReadsReply : List ℕ → ℕ → ReplyParts → ReplyParts → Type 0
ReadsReply bytes answer before after =
    ((reply : Reply) × SpellsReply bytes reply × (answer ≡ 0) × ShowsReply bytes reply after)
    ⊎ ((refusal : Refusal) × refusals.ReadsReply bytes (Err refusal) × (answer ≡ reply_refusal_number refusal) × (after ≡ before))

module _ (hash : List ℕ → List ℕ) where
  -- A reply is checked for a name under a body, where this is said of its value: the first that applies of 9, the body is
  -- none; 8, the name is none; the refusals of the reply.
  abbrev pub ChecksReply : List ℕ → List ℕ → List ℕ → Bool → ℕ → Binding → Binding → Type 0
  ChecksReply body name bytes is_accepted answer before after =
      (((b : Body) → ¬ Spells body_bytes IsBody body b) × (answer ≡ 9) × (after ≡ before))
      ⊎ ((b : Body) × Spells body_bytes IsBody body b × (
      ((¬ IsName name) × (answer ≡ 8) × (after ≡ before))
      ⊎ (IsName name × (
      ((refusal : Refusal) × Refuses hash (told is_accepted) b name bytes refusal × (answer ≡ reply_refusal_number refusal) × (after ≡ before))
      ⊎ ((statement : Option BoundKey) × Accepts hash (told is_accepted) b name bytes statement × (answer ≡ 0) × ShowsStatement bytes statement after)
      ))
      ))

-- two signed roots, of which this answer says this; or 1, where one is none
abbrev pub AreRoots : List ℕ → List ℕ → (SignedRoot → SignedRoot → ℕ → Type 0) → ℕ → Type 0
AreRoots first second Says answer =
    ((one other : SignedRoot) × SpellsRoot first one × SpellsRoot second other × Says one other answer)
    ⊎ ((((one : SignedRoot) → ¬ SpellsRoot first one) ⊎ ((other : SignedRoot) → ¬ SpellsRoot second other)) × (answer ≡ 1))

-- the two roots stand as the kind of evidence says, whoever signed them
abbrev pub Stand : (List ℕ → List ℕ) → RootEvidence → Type 0
Stand hash (Fork one other) = IsFork one other
Stand hash (Link one other) = IsLink hash one other
Stand hash (Skip one other) = IsSkip one other

-- the kind of what two roots show
abbrev pub ShowsEvidence : (List ℕ → List ℕ) → SignedRoot → SignedRoot → ℕ → Type 0
ShowsEvidence hash one other answer =
    (IsFork one other × (answer ≡ 16))
    ⊎ (IsLink hash one other × (answer ≡ 17))
    ⊎ (IsSkip one other × (answer ≡ 18))
    ⊎ ((¬ IsFork one other) × (¬ IsLink hash one other) × (¬ IsSkip one other) × (answer ≡ 0))

-- a signed promise is read
abbrev pub ReadsPromise : List ℕ → ℕ → PromiseParts → PromiseParts → Type 0
ReadsPromise bytes answer before after =
    ((signed : SignedPromise) × SpellsPromise bytes signed × (answer ≡ 0) × ShowsPromise bytes signed after)
    ⊎ (((signed : SignedPromise) → ¬ SpellsPromise bytes signed) × (answer ≡ 1) × (after ≡ before))

-- a root names that of a promise as the one before it
abbrev pub IsNext : Promise → SignedRoot → Type 0
IsNext promise root = (root.body.previous_epoch ≡ promise.epoch) × (root.body.previous_hash ≡ promise.body_hash)

-- what a reply with this statement shows of a promise for its name: another index, that it was kept, or broken
abbrev pub Judges : (List ℕ → List ℕ) → Promise → Reply → Option BoundKey → ℕ → Type 0
Judges hash promise reply statement answer =
    ((hash reply.value ≢ promise.index) × (answer ≡ 20))
    ⊎ ((hash reply.value ≡ promise.index) × (statement ≡ Some promise.key) × (answer ≡ 0))
    ⊎ ((hash reply.value ≡ promise.index) × (statement ≢ Some promise.key) × (answer ≡ 19))

-- A promise is tested against a reply under a root: the first that applies of 12, the root is not the one that follows; the
-- refusals of the reply; else it is judged.
abbrev pub TestsUnder : (List ℕ → List ℕ) → Promise → SignedRoot → List ℕ → Bool → ℕ → Type 0
TestsUnder hash promise root bytes is_accepted answer =
    ((¬ IsNext promise root) × (answer ≡ 12))
    ⊎ (IsNext promise root × ((refusal : Refusal) × Refuses hash (told is_accepted) root.body promise.name bytes refusal × (answer ≡ reply_refusal_number refusal)))
    ⊎ (IsNext promise root × ((reply : Reply) × (is_accepted ≡ true) × IsAcceptedReply hash any root.body promise.name bytes reply × Judges hash promise reply (stated reply.end) answer))

-- so for bytes: 10, the promise is none, and 11, the root is none, come before
abbrev pub TestsPromise : (List ℕ → List ℕ) → List ℕ → List ℕ → List ℕ → Bool → ℕ → Type 0
TestsPromise hash promise root bytes is_accepted answer =
    (((signed : SignedPromise) → ¬ SpellsPromise promise signed) × (answer ≡ 10))
    ⊎ ((signed : SignedPromise) × SpellsPromise promise signed × (
    (((next : SignedRoot) → ¬ SpellsRoot root next) × (answer ≡ 11))
    ⊎ ((next : SignedRoot) × SpellsRoot root next × TestsUnder hash signed.promise next bytes is_accepted answer)
    ))
