-- Which changes of the key a monitor expects: those that the provider promised (CONIKS, section 4,
-- temporary bindings).
use Rattle.std.specs.Prelude.{◌≡◌, ◌⊎◌, ℕ, ◌<◌, ◌≤◌, List, Option, Some, Result, Ok, Err, All, Contains}
use Rattle.encoding.specs.declared.bound_key.BoundKey.{BoundKey}
use Rattle.rootchain.specs.declared.promise.Promise.{Promise}
use Rattle.rootchain.specs.declared.signed_promise.SignedPromise.{SignedPromise}
use Rattle.proofs.specs.Watches.{Watch, expected}
use Rattle.client.specs.Promising.{IsGiven, ReadsPromise}
use Rattle.client.specs.declared.client_refusal.Refusal.TheVariants.{Root, Proof, UnknownRoot, RootDiffers, Memory, NoPromise}
use Rattle.monitor.specs.Monitors.{Monitor, with_change}
use Rattle.monitor.specs.declared.monitor_refusal.Refusal.{Refusal}
use Rattle.monitor.specs.declared.monitor_refusal.Refusal.TheVariants.{Client, OtherPromise}

-- The promise is of this key for the watched name (CONIKS, section 4: temporary binding), each expected change was
-- promised before it, and no epoch above its own was watched.
pub record MayExpect (monitor : Monitor) (key : BoundKey) (promise : Promise) : Type 0 where
  pub named : promise.name ≡ monitor.name
  pub keyed : promise.key ≡ key
  pub later : All (λ change. change.0 < promise.epoch) monitor.watch.changes
  pub unwatched : monitor.watched ≤ promise.epoch

module _ (hash : List ℕ → List ℕ) (verified : List ℕ → List ℕ → List ℕ → Type 0) (before : Monitor) (key : BoundKey) (bytes : List ℕ) where
  -- the bytes spell such a promise, which the provider signed over a root of the chain
  abbrev pub IsNewPromise : SignedPromise → Type 0
  IsNewPromise signed = IsGiven hash verified before.client bytes signed × MayExpect before key signed.promise

  -- what comes of bytes that are read as such a promise
  abbrev pub ReadsChange : Result SignedPromise Refusal → Type 0
  ReadsChange (Ok signed) = IsNewPromise signed
  ReadsChange (Err OtherPromise) = (signed : SignedPromise) × IsGiven hash verified before.client bytes signed × ¬ MayExpect before key signed.promise
  ReadsChange (Err (Client why)) = ReadsPromise hash verified before.client bytes (Err why)

  -- What comes of a change that is to be expected, and the monitor after it. `Memory` is the last refusal.
  abbrev pub Expects : {A : Type 0} → Result A Refusal → Monitor → Type 0
  Expects (Ok _) after = (signed : SignedPromise) × IsNewPromise signed × (after ≡ with_change before signed)
  Expects (Err OtherPromise) after = ReadsChange (Err OtherPromise) × (after ≡ before)
  Expects (Err (Client Memory)) after = ((signed : SignedPromise) × IsNewPromise signed) × (after ≡ before)
  Expects (Err (Client (Root why))) after = ReadsChange (Err (Client (Root why))) × (after ≡ before)
  Expects (Err (Client UnknownRoot)) after = ReadsChange (Err (Client UnknownRoot)) × (after ≡ before)
  Expects (Err (Client (Proof why))) after = ⊥
  Expects (Err (Client (RootDiffers evidence))) after = ⊥
  Expects (Err (Client NoPromise)) after = ⊥

-- What a watch expects of an epoch: the key of the change with the greatest promise epoch below it, or,
-- if no change is promised below it, what was given at the start.
abbrev pub IsExpected : Watch → ℕ → Option BoundKey → Type 0
IsExpected watch epoch key =
    ((change : ℕ × BoundKey) × Contains watch.changes change × (change.0 < epoch)
    × ((other : ℕ × BoundKey) → Contains watch.changes other → other.0 < epoch → other.0 ≤ change.0) × (key ≡ Some change.1))
    ⊎ (All (λ change. epoch ≤ change.0) watch.changes × (key ≡ watch.start))

-- the key is expected at each epoch above this one, and up to it what was expected before
pub record ExpectsAbove (before : Watch) (epoch : ℕ) (key : BoundKey) (after : Watch) : Type 0 where
  pub above : (at : ℕ) → epoch < at → expected after at ≡ Some key
  pub below : (at : ℕ) → at ≤ epoch → expected after at ≡ expected before at
