-- Which signed promises a client keeps (CONIKS, section 4, temporary bindings).
use Rattle.std.specs.Prelude.{◌≡◌, ℕ, List, Result, Ok, Err}
use Rattle.rootchain.specs.Promises.{PromiseVerifies, SpellsPromise}
use Rattle.rootchain.specs.declared.signed_promise.SignedPromise.{SignedPromise}
use Rattle.client.specs.Clients.{Client, HasRootOf, with_promise}
use Rattle.client.specs.declared.client_refusal.Refusal.{Refusal}
use Rattle.client.specs.declared.client_refusal.RootRefusal.TheVariants.{Malformed, BadSignature, NotLater, BadLink}
use Rattle.client.specs.declared.client_refusal.Refusal.TheVariants.{Root, Proof, UnknownRoot, RootDiffers, Memory, NoPromise}

module _ (hash : List ℕ → List ℕ) (verified : List ℕ → List ℕ → List ℕ → Type 0) (before : Client) (bytes : List ℕ) where
  -- the bytes spell this promise, and it verifies under the chain's key
  abbrev pub IsSpelledPromise : SignedPromise → Type 0
  IsSpelledPromise signed = SpellsPromise bytes signed × PromiseVerifies verified before.chain.key signed

  -- and a root of the chain has its epoch and hash
  abbrev pub IsGiven : SignedPromise → Type 0
  IsGiven signed = IsSpelledPromise signed × HasRootOf hash before.chain signed.promise

  -- what comes of bytes that are read as a promise
  abbrev pub ReadsPromise : Result SignedPromise Refusal → Type 0
  ReadsPromise (Ok signed) = IsGiven signed
  ReadsPromise (Err (Root Malformed)) = (signed : SignedPromise) → ¬ SpellsPromise bytes signed
  ReadsPromise (Err (Root BadSignature)) = (signed : SignedPromise) × SpellsPromise bytes signed × ¬ PromiseVerifies verified before.chain.key signed
  ReadsPromise (Err (Root NotLater)) = ⊥
  ReadsPromise (Err (Root BadLink)) = ⊥
  ReadsPromise (Err UnknownRoot) = (signed : SignedPromise) × IsSpelledPromise signed × ¬ HasRootOf hash before.chain signed.promise
  ReadsPromise (Err (Proof why)) = ⊥
  ReadsPromise (Err (RootDiffers evidence)) = ⊥
  ReadsPromise (Err Memory) = ⊥
  ReadsPromise (Err NoPromise) = ⊥

  -- what comes of a promise that is to be kept, and the client after it (CONIKS, section 4: temporary binding)
  abbrev pub KeepsPromise : {A : Type 0} → Result A Refusal → Client → Type 0
  KeepsPromise (Ok _) after = (signed : SignedPromise) × IsGiven signed × (after ≡ with_promise before signed)
  KeepsPromise (Err Memory) after = ((signed : SignedPromise) × IsGiven signed) × (after ≡ before)
  KeepsPromise (Err (Root why)) after = ReadsPromise (Err (Root why)) × (after ≡ before)
  KeepsPromise (Err UnknownRoot) after = ReadsPromise (Err UnknownRoot) × (after ≡ before)
  KeepsPromise (Err (Proof why)) after = ⊥
  KeepsPromise (Err (RootDiffers evidence)) after = ⊥
  KeepsPromise (Err NoPromise) after = ⊥
