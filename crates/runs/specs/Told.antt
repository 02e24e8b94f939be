-- What was told of the epochs that monitors watched.
use Rattle.std.specs.Prelude.{◌≡◌, ◌⊎◌, ℕ, ◌<◌, ◌≤◌, List, [], ◌++◌, Contains, Option, Some}
use Rattle.encoding.specs.declared.bound_key.BoundKey.{BoundKey}
use Rattle.rootchain.specs.declared.signed_promise.SignedPromise.{SignedPromise}
use Rattle.rootchain.specs.declared.signed_root.SignedRoot.{SignedRoot}
use Rattle.proofs.specs.Accepts.{stated}
use Rattle.proofs.specs.Comparisons.{IsAcceptedReply}
use Rattle.proofs.specs.Replies.{Reply}
use Rattle.proofs.specs.Watches.{Watch}
use Rattle.rootchain.specs.Chains.{IsChain, KeyedRoots}
use Rattle.monitor.specs.Monitors.{IsWatched, IsWatching, Monitor}
use Rattle.monitor.specs.Stepping.{StepTells}
use Rattle.monitor.specs.declared.step.Step.{Step}
use Rattle.asking.specs.Watching.{step_told}

-- these lines are in the text
abbrev pub HasLines : List ℕ → List ℕ → Type 0
HasLines text lines = (front : List ℕ) × (behind : List ℕ) × (text ≡ front ++ (lines ++ behind))

module _ (hash : List ℕ → List ℕ) (accepted : List ℕ → List ℕ → List ℕ → Type 0) where
  -- it is told what a reply states of a name that is accepted under this root, against what the watch expects there
  abbrev pub IsToldAt : List ℕ → List ℕ → Watch → SignedRoot → Type 0
  IsToldAt text name watch root = (bytes : List ℕ) × (reply : Reply) × (step : Step) × IsAcceptedReply hash accepted root.body name bytes reply
      × StepTells watch root.body.epoch (stated reply.end) step × HasLines text (step_told name root.body.epoch step).lines

  -- it is told of each root of its chain that the monitor watched
  abbrev pub TellsWatched : List ℕ → Monitor → Type 0
  TellsWatched text monitor = (root : SignedRoot) → IsWatched monitor root → IsToldAt text monitor.name monitor.watch root

-- a monitor as its own calls leave it, of which all that it watched is told in a text
pub record IsTold (hash : List ℕ → List ℕ) (accepted verified : List ℕ → List ℕ → List ℕ → Type 0) (text : List ℕ) (monitor : Monitor) : Type 0 where
  pub chain : IsChain hash verified monitor.client.chain
  pub is : IsWatching monitor
  pub tells : TellsWatched hash accepted text monitor

-- the chain has a root with the body of this one
abbrev pub HasBody : KeyedRoots → SignedRoot → Type 0
HasBody chain root = (own : SignedRoot) × Contains chain.roots own × (own.body ≡ root.body)

-- the watch that expects this key, or none, in every epoch
abbrev pub always : Option BoundKey → Watch
always key = record { start = key; changes = [] }

-- What an owner expects of a name, by given keys, and by promises for changes of the owner's own, of which some are known to
-- count.
module _ (Given : List ℕ → Option BoundKey → Type 0) (Own : SignedPromise → Type 0) (Counts : SignedPromise → Type 0) where
  -- in an epoch: the key of a promise from before it for a change of the owner's own, and none from before it that counts is
  -- later; or what was given, and none that counts is from before it
  abbrev pub ExpectsAt : List ℕ → ℕ → Option BoundKey → Type 0
  ExpectsAt name epoch key =
      ((signed : SignedPromise) × Own signed × (signed.promise.name ≡ name) × (signed.promise.epoch < epoch) × (key ≡ Some signed.promise.key)
      × ((other : SignedPromise) → Counts other → other.promise.name ≡ name → other.promise.epoch < epoch → other.promise.epoch ≤ signed.promise.epoch))
      ⊎ (Given name key × ((other : SignedPromise) → Counts other → other.promise.name ≡ name → epoch ≤ other.promise.epoch))

  -- it is told of the root for the name, against what its owner expects there
  abbrev pub TellsEpoch : (List ℕ → List ℕ) → (List ℕ → List ℕ → List ℕ → Type 0) → List ℕ → List ℕ → SignedRoot → Type 0
  TellsEpoch hash accepted text name root = (key : Option BoundKey) × ExpectsAt name root.body.epoch key × IsToldAt hash accepted text name (always key) root
