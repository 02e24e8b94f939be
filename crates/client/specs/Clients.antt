-- What a client is to its callers (CONIKS, section 4): a chain of the provider's roots, the looks that it
-- accepted, in order, and the promises that it keeps.
use Rattle.std.specs.Prelude.{◌≡◌, ℕ, List, [], ◌∷◌, ◌++◌}
use Rattle.std.specs.List.{AllByRecursion}
use Rattle.encoding.specs.Limits.{IsName}
use Rattle.rootchain.specs.Bodies.{body_bytes}
use Rattle.rootchain.specs.Chains.{IsAt, KeyedRoots}
use Rattle.rootchain.specs.Promises.{IsSignedPromise, PromiseVerifies}
use Rattle.rootchain.specs.SignedRoots.{IsSignedRoot}
use Rattle.rootchain.specs.declared.promise.Promise.{Promise}
use Rattle.rootchain.specs.declared.signed_promise.SignedPromise.{SignedPromise}
use Rattle.rootchain.specs.declared.signed_root.SignedRoot.{SignedRoot}
use Rattle.proofs.specs.Comparisons.{IsAcceptedReply}
use Rattle.proofs.specs.Replies.{Reply}

-- a look that was accepted: the name, the epoch of the root, and the bytes of the reply
pub record Look : Type 0 where
  pub name : List ℕ
  pub epoch : ℕ
  pub reply : List ℕ

pub record Client : Type 0 where
  pub chain : KeyedRoots
  pub looks : List Look
  pub promises : List SignedPromise

-- the client that starts with a root
abbrev pub started : List ℕ → SignedRoot → Client
started key root = record { chain = record { key = key; roots = root ∷ [] }; looks = []; promises = [] }

-- the client with one more look, and with one more promise
abbrev pub with_look : Client → Look → Client
with_look client look = record client { looks = client.looks ++ look ∷ [] }

abbrev pub with_promise : Client → SignedPromise → Client
with_promise client promise = record client { promises = client.promises ++ promise ∷ [] }

module _ (hash : List ℕ → List ℕ) where
  -- a root of the chain has the promise's epoch and hash
  unfoldable pub HasRootOf : KeyedRoots → Promise → Type 0
  HasRootOf chain promise = (root : SignedRoot) × IsAt chain promise.epoch root × (promise.body_hash ≡ hash (body_bytes root.body))

  -- the reply was accepted for the name under the root that the chain has at the look's epoch
  pub record IsAcceptedLook (accepted : List ℕ → List ℕ → List ℕ → Type 0) (chain : KeyedRoots) (look : Look) : Type 0 where
    pub named : IsName look.name
    pub root : SignedRoot
    pub at : IsAt chain look.epoch root
    pub reply : Reply
    pub is : IsAcceptedReply hash accepted root.body look.name look.reply reply

  -- a signed promise of the chain's provider, of a root of the chain
  pub record IsPromised (verified : List ℕ → List ℕ → List ℕ → Type 0) (chain : KeyedRoots) (signed : SignedPromise) : Type 0 where
    pub form : IsSignedPromise signed
    pub verifies : PromiseVerifies verified chain.key signed
    pub rooted : HasRootOf chain signed.promise

-- what is true of each client: its roots have spellings, its looks were accepted, and its promises are of
-- its provider
pub record IsSoundClient (hash : List ℕ → List ℕ) (accepted verified : List ℕ → List ℕ → List ℕ → Type 0) (client : Client) : Type 0 where
  pub roots : AllByRecursion IsSignedRoot client.chain.roots
  pub looks : AllByRecursion (IsAcceptedLook hash accepted client.chain) client.looks
  pub promises : AllByRecursion (IsPromised hash verified client.chain) client.promises
