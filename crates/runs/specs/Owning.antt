-- Where the monitors and the marks of a run stand to the client's chain, and to what was told.
use Rattle.std.specs.Prelude.{◌≡◌, ◌⊎◌, ℕ, ◌<◌, ◌≤◌, List, ◌++◌, Contains, Option}
use Rattle.std.specs.List.{AllByRecursion}
use Rattle.encoding.specs.declared.bound_key.BoundKey.{BoundKey}
use Rattle.rootchain.specs.declared.signed_promise.SignedPromise.{SignedPromise}
use Rattle.rootchain.specs.declared.signed_root.SignedRoot.{SignedRoot}
use Rattle.rootchain.specs.Chains.{IsChain, IsHead, KeyedRoots}
use Rattle.rootchain.specs.Places.{IsFirst}
use Rattle.rootchain.specs.SignedRoots.{IsSignedRoot}
use Rattle.proofs.specs.Watches.{Watch}
use Rattle.client.specs.Clients.{HasRootOf}
use Rattle.memory.specs.Memories.{Memory}
use Rattle.memory.specs.declared.mark.Mark.{Mark}
use Rattle.monitor.specs.Monitors.{Monitor}
use Rattle.asking.specs.Scenes.{Scene}
use Rattle.runs.specs.Saves.{Counts, IsOwnAhead, WasOwn}
use Rattle.runs.specs.Told.{ExpectsAt, HasBody, IsTold, TellsEpoch}

-- each root of the chain above an epoch is this one or a later one
abbrev pub IsLeastAbove : KeyedRoots → ℕ → SignedRoot → Type 0
IsLeastAbove chain epoch first = (root : SignedRoot) → Contains chain.roots root → epoch < root.body.epoch → first.body.epoch ≤ root.body.epoch

-- the epoch of the root was watched for the name before: by one of these marks
abbrev pub WasWatched : List Mark → List ℕ → SignedRoot → Type 0
WasWatched marks name root = (mark : Mark) × Contains marks mark × (mark.name ≡ name) × (mark.since < root.body.epoch) × (root.body.epoch ≤ mark.epoch)

-- a monitor of the mark's name begins no later than behind the mark
abbrev pub HasJoined : KeyedRoots → List Monitor → Mark → Type 0
HasJoined chain monitors mark = (monitor : Monitor) × Contains monitors monitor × (monitor.name ≡ mark.name)
    × ((first : SignedRoot) → IsFirst monitor.client.chain first → IsLeastAbove chain mark.epoch first)

-- a change of this epoch is expected
abbrev pub HasChange : List (ℕ × BoundKey) → ℕ → Type 0
HasChange changes epoch = (change : ℕ × BoundKey) × Contains changes change × (change.0 ≡ epoch)

module _ (Given : List ℕ → Option BoundKey → Type 0) (Own : SignedPromise → Type 0) (start : Memory) where
  -- the change is one of the owner's own, with the epoch and the key of its promise
  abbrev pub IsOwnChange : List ℕ → ℕ × BoundKey → Type 0
  IsOwnChange name change = (signed : SignedPromise) × IsOwnAhead Own start signed × (signed.promise.name ≡ name) × (signed.promise.epoch ≡ change.0) × (signed.promise.key ≡ change.1)

  -- The watch of a monitor whose chain begins with this root: it expects there what the owner does, and later changes of the
  -- owner's own, among them one of the epoch of each that counts.
  pub record IsOwners (name : List ℕ) (first : SignedRoot) (watch : Watch) : Type 0 where
    pub begins : ExpectsAt Given (IsOwnAhead Own start) (Counts start) name first.body.epoch watch.start
    pub changes : AllByRecursion (IsOwnChange name) watch.changes
    pub later : AllByRecursion (λ (change : ℕ × BoundKey). first.body.epoch ≤ change.0) watch.changes
    pub covers : (signed : SignedPromise) → Counts start signed → signed.promise.name ≡ name → first.body.epoch ≤ signed.promise.epoch → HasChange watch.changes signed.promise.epoch

module _ (hash : List ℕ → List ℕ) (accepted verified : List ℕ → List ℕ → List ℕ → Type 0) (Given : List ℕ → Option BoundKey → Type 0) (Own : SignedPromise → Type 0) (start : Memory) where
  -- A monitor that all was told of, with the roots of the client's chain, which it has from behind the mark of an earlier
  -- run on, if there is one. It expects what the owner does.
  pub record IsOwn (text : List ℕ) (chain : KeyedRoots) (marks : List Mark) (monitor : Monitor) : Type 0 where
    pub told : IsTold hash accepted verified text monitor
    pub own : AllByRecursion (HasBody chain) monitor.client.chain.roots
    pub begins : (mark : Mark) → Contains marks mark → mark.name ≡ monitor.name → (first : SignedRoot) → IsFirst monitor.client.chain first → IsLeastAbove chain mark.epoch first
    pub above : (mark : Mark) → Contains marks mark → mark.name ≡ monitor.name → (first : SignedRoot) → IsFirst monitor.client.chain first → mark.epoch < first.body.epoch
    pub expects : (first : SignedRoot) → IsFirst monitor.client.chain first → IsOwners Given Own start monitor.name first monitor.watch

  -- A mark as it may stand: it is not above the head, or nothing was watched; of each root of the chain up to it was told,
  -- or an earlier run had watched it; and what is above it will be watched.
  pub record IsHeld (text : List ℕ) (marks : List Mark) (chain : KeyedRoots) (monitors : List Monitor) (mark : Mark) : Type 0 where
    pub low : (mark.epoch ≤ mark.since) ⊎ ((head : SignedRoot) × IsHead chain head × (mark.epoch ≤ head.body.epoch))
    pub told : (root : SignedRoot) → Contains chain.roots root → mark.since < root.body.epoch → root.body.epoch ≤ mark.epoch
        → TellsEpoch Given (IsOwnAhead Own start) (Counts start) hash accepted text mark.name root ⊎ WasWatched marks mark.name root
    pub link : Contains marks mark ⊎ HasJoined chain monitors mark

  -- All this is so in a scene: where this text was written before it, these roots are stored, the run began with the first
  -- of these marks, and the second are known. The chain has the roots of the promises that were remembered or noted.
  pub record Owns {T : Type 0} (text : List ℕ) (stored : List SignedRoot) (marks known : List Mark) (now : Scene T) : Type 0 where
    pub chain : IsChain hash verified now.client.chain
    pub formed : AllByRecursion IsSignedRoot now.client.chain.roots
    pub stores : AllByRecursion (Contains now.client.chain.roots) stored
    pub rooted : (signed : SignedPromise) → WasOwn start signed → HasRootOf hash now.client.chain signed.promise
    pub watched : AllByRecursion (IsOwn (text ++ now.told.lines) now.client.chain marks) now.monitors
    pub held : (mark : Mark) → Contains known mark → IsHeld text marks now.client.chain now.monitors mark
