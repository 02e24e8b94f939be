-- Whether a promise was kept in the next root (CONIKS, section 4, temporary bindings).
use Rattle.std.specs.Prelude.{◌≡◌, ◌≢◌, ◌⊎◌, ℕ, ◌<◌, ◌≤◌, List, Option, Some, None, Result, Ok, Err, slice_get, remove}
use Rattle.std.specs.List.{AllByRecursion}
use Rattle.rootchain.specs.Chains.{KeyedRoots}
use Rattle.rootchain.specs.Places.{IsNextAfter}
use Rattle.rootchain.specs.Promises.{IsSignedPromise}
use Rattle.rootchain.specs.SignedRoots.{IsSignedRoot}
use Rattle.rootchain.specs.declared.signed_promise.SignedPromise.{SignedPromise}
use Rattle.rootchain.specs.declared.signed_root.SignedRoot.{SignedRoot}
use Rattle.proofs.specs.Accepts.{stated}
use Rattle.proofs.specs.BrokenPromises.{IsBrokenPromise}
use Rattle.proofs.specs.Comparisons.{IsAcceptedReply, Refuses}
use Rattle.proofs.specs.Replies.{Reply, SpellsReply}
use Rattle.client.specs.Clients.{Client}
use Rattle.client.specs.declared.due.Due.{Due}
use Rattle.client.specs.declared.due.Due.TheVariants.{Kept, Broken, OtherIndex}
use Rattle.client.specs.declared.client_refusal.Refusal.{Refusal}
use Rattle.client.specs.declared.client_refusal.Refusal.TheVariants.{Root, Proof, UnknownRoot, RootDiffers, Memory, NoPromise}

-- no promise is one for the name
abbrev pub HasNone : List SignedPromise → List ℕ → Type 0
HasNone promises name = AllByRecursion (λ signed. signed.promise.name ≢ name) promises

-- The promise that is tested for a name, and its place: of those for the name the one of the least epoch,
-- and of equals the first.
pub record IsTested (promises : List SignedPromise) (name : List ℕ) (place : ℕ) (signed : SignedPromise) : Type 0 where
  pub at : slice_get promises place ≡ Some signed
  pub named : signed.promise.name ≡ name
  pub least : (k : ℕ) (other : SignedPromise) → slice_get promises k ≡ Some other → other.promise.name ≡ name → signed.promise.epoch ≤ other.promise.epoch
  pub first : (k : ℕ) (other : SignedPromise) → k < place → slice_get promises k ≡ Some other → other.promise.name ≡ name → signed.promise.epoch < other.promise.epoch

-- a reply under the next root shows that a promise was kept, if it is accepted
abbrev pub ShowsKept : (List ℕ → List ℕ) → KeyedRoots → SignedPromise → List ℕ → Type 0
ShowsKept hash chain signed bytes = (root : SignedRoot) × (reply : Reply) × IsNextAfter chain signed.promise.epoch root × SpellsReply bytes reply × (reply.body ≡ root.body)
    × ((hash reply.value ≡ signed.promise.index) × (stated reply.end ≡ Some signed.promise.key))

module _ (hash : List ℕ → List ℕ) (accepted : List ℕ → List ℕ → List ℕ → Type 0) where
  module _ (signed : SignedPromise) (root : SignedRoot) (bytes : List ℕ) (reply : Reply) where
    -- what an accepted reply under the next root shows of a promise (CONIKS, section 4: whether a temporary binding
    -- was kept)
    abbrev pub IsTestedAs : Due → Type 0
    IsTestedAs OtherIndex = hash reply.value ≢ signed.promise.index
    IsTestedAs Kept = (hash reply.value ≡ signed.promise.index) × (stated reply.end ≡ Some signed.promise.key)
    IsTestedAs (Broken broken) = (hash reply.value ≡ signed.promise.index) × (stated reply.end ≢ Some signed.promise.key)
        × (broken ≡ record { promise = signed; root = root; proof = bytes })

  -- What comes of testing a promise by a reply: the root that the reply has to be accepted under is the
  -- chain's first one after that of the promise.
  module _ (chain : KeyedRoots) (name bytes : List ℕ) (signed : SignedPromise) where
    abbrev pub Tests : Result Due Refusal → Type 0
    Tests (Ok due) = (root : SignedRoot) × (reply : Reply) × IsNextAfter chain signed.promise.epoch root
        × IsAcceptedReply hash accepted root.body name bytes reply × IsTestedAs signed root bytes reply due
    Tests (Err UnknownRoot) = (root : SignedRoot) → ¬ IsNextAfter chain signed.promise.epoch root
    Tests (Err (Proof why)) = (root : SignedRoot) × IsNextAfter chain signed.promise.epoch root × Refuses hash accepted root.body name bytes why
    Tests (Err (Root why)) = ⊥
    Tests (Err (RootDiffers evidence)) = ⊥
    Tests (Err Memory) = ⊥
    Tests (Err NoPromise) = ⊥

-- the client after this result for the promise at a place: only a promise that was kept is dropped
abbrev pub left : Client → ℕ → Due → Client
left client place Kept = record client { promises = remove client.promises place }
left client place (Broken broken) = client
left client place OtherIndex = client

module _ (hash : List ℕ → List ℕ) (accepted : List ℕ → List ℕ → List ℕ → Type 0) (before : Client) (name bytes : List ℕ) where
  -- the promise that is tested, and what comes of the reply
  abbrev pub TestsOne : ℕ → Result Due Refusal → Type 0
  TestsOne place result = (signed : SignedPromise) × IsTested before.promises name place signed × Tests hash accepted before.chain name bytes signed result

  -- the answer, and the client after it
  abbrev pub Dues : Result Due Refusal → Client → Type 0
  Dues (Ok due) after = (place : ℕ) × TestsOne place (Ok due) × (after ≡ left before place due)
  Dues (Err NoPromise) after = HasNone before.promises name × (after ≡ before)
  Dues (Err UnknownRoot) after = (place : ℕ) × TestsOne place (Err UnknownRoot) × (after ≡ before)
  Dues (Err (Proof why)) after = (place : ℕ) × TestsOne place (Err (Proof why)) × (after ≡ before)
  Dues (Err (Root why)) after = ⊥
  Dues (Err (RootDiffers evidence)) after = ⊥
  Dues (Err Memory) after = ⊥

-- the epoch of the root that the next reply is tested under, if there are a promise and such a root
module _ (client : Client) (name : List ℕ) where
  abbrev pub IsDueEpoch : Option ℕ → Type 0
  IsDueEpoch None = HasNone client.promises name
      ⊎ ((place : ℕ) × (signed : SignedPromise) × IsTested client.promises name place signed × ((root : SignedRoot) → ¬ IsNextAfter client.chain signed.promise.epoch root))
  IsDueEpoch (Some epoch) = (place : ℕ) × (signed : SignedPromise) × (root : SignedRoot) × IsTested client.promises name place signed
      × IsNextAfter client.chain signed.promise.epoch root × (root.body.epoch ≡ epoch)

-- a promise that is reported as broken is evidence under the key, and has a spelling
abbrev pub DueHolds : (List ℕ → List ℕ) → (List ℕ → List ℕ → List ℕ → Type 0) → (List ℕ → List ℕ → List ℕ → Type 0) → List ℕ → Due → Type 0
DueHolds hash accepted verified key Kept = Unit
DueHolds hash accepted verified key OtherIndex = Unit
DueHolds hash accepted verified key (Broken broken) = IsBrokenPromise hash accepted verified key broken.promise broken.root broken.proof
    × IsSignedPromise broken.promise × IsSignedRoot broken.root
