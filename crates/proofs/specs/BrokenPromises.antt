-- What shows that a provider broke a promise (CONIKS, section 4).
use Rattle.std.specs.Prelude.{◌≡◌, ◌≢◌, ℕ, List, Option, Some}
use Rattle.encoding.specs.declared.bound_key.BoundKey.{BoundKey}
use Rattle.rootchain.specs.Chains.{Verifies}
use Rattle.rootchain.specs.Promises.{PromiseVerifies}
use Rattle.rootchain.specs.declared.body.Body.{Body}
use Rattle.rootchain.specs.declared.promise.Promise.{Promise}
use Rattle.rootchain.specs.declared.signed_promise.SignedPromise.{SignedPromise}
use Rattle.rootchain.specs.declared.signed_root.SignedRoot.{SignedRoot}
use Rattle.proofs.specs.Accepts.{Accepts, HasIndex}

module _ (hash : List ℕ → List ℕ) (accepted : List ℕ → List ℕ → List ℕ → Type 0) where
  -- a reply for the promised name with the promised index, accepted under this body, that does not state
  -- the promised key with its policy, if it has one
  pub record Contradicts (promise : Promise) (body : Body) (text : List ℕ) : Type 0 where
    pub statement : Option BoundKey
    pub passes : Accepts hash accepted body promise.name text statement
    pub index : HasIndex hash text promise.index
    pub broken : statement ≢ Some promise.key

  module _ (verified : List ℕ → List ℕ → List ℕ → Type 0) (key : List ℕ) where
    -- a signed promise, the signed root that follows that of the promise, and a reply under it that
    -- contradicts the promise (CONIKS, section 4: temporary binding that was not kept)
    pub record IsBrokenPromise (promised : SignedPromise) (root : SignedRoot) (text : List ℕ) : Type 0 where
      pub signed : PromiseVerifies verified key promised
      pub rooted : Verifies verified key root
      pub next : root.body.previous_epoch ≡ promised.promise.epoch
      pub linked : root.body.previous_hash ≡ promised.promise.body_hash
      pub contradicts : Contradicts promised.promise root.body text
