-- Where a run stands to what it keeps.
use Rattle.std.specs.Prelude.{◌≡◌, ◌⊎◌, ℕ, ◌+◌, ◌<◌, ◌≤◌, List, [], ◌∷◌, ◌++◌, false, true, drop, Contains, length, Option, Some, None, Ok, ⊤}
use Rattle.std.specs.List.{AllByRecursion}
use Rattle.std.specs.List.Sorted.{IsNonDecreasingBy}
use Rattle.encoding.specs.declared.bound_key.BoundKey.{BoundKey}
use Rattle.rootchain.specs.declared.signed_promise.SignedPromise.{SignedPromise}
use Rattle.rootchain.specs.declared.signed_root.SignedRoot.{SignedRoot}
use Rattle.rootchain.specs.Chains.{IsHead, KeyedRoots}
use Rattle.rootchain.specs.Places.{IsFirst}
use Rattle.rootchain.specs.Promises.{IsSignedPromise}
use Rattle.client.specs.Clients.{Client}
use Rattle.memory.specs.Leaving.{Leaves, Settles}
use Rattle.memory.specs.Memories.{nothing, Memory}
use Rattle.memory.specs.Texts.{memory_text, HasWholeLines, Spells, TakesAll}
use Rattle.memory.specs.declared.item.Item.{Item}
use Rattle.memory.specs.declared.mark.Mark.{Mark}
use Rattle.monitor.specs.Monitors.{Monitor}
use Rattle.play.specs.Scripts.{line_of, ScriptLine}
use Rattle.runs.specs.Owning.{Owns}
use Rattle.runs.specs.Remembering.{AreWithin}
use Rattle.runs.specs.Saves.{found_in, stored_after, stored_nothing, Act, AllKeepTold, AreEarlier, Found, HasOneOfEachName, IsAsked, IsAskedChange, IsDropped, IsHeadEpoch, IsOwnPromise, IsSaid, KeepsTold, Loads, LoadsFor, WasOwn, Writes, noting}
use Rattle.asking.specs.FinalBindings.{no_finals}
use Rattle.asking.specs.Scenes.{Scene}
use Rattle.runs.specs.Told.{HasBody}
use Rattle.asking.specs.declared.asker.Asker.{Asker}
use Rattle.runs.specs.declared.state.State.{State}

-- no mark is above this epoch, unless nothing was watched of it
abbrev pub Fits : ℕ → Memory → Type 0
Fits epoch known = (mark : Mark) → Contains known.marks mark → (mark.epoch ≤ mark.since) ⊎ (mark.epoch ≤ epoch)

-- each mark is an old one, or nothing was watched of it yet; and no old one is lost
pub record KeepsMarks (before after : Memory) : Type 0 where
  pub known : (mark : Mark) → Contains after.marks mark → Contains before.marks mark ⊎ (mark.since ≡ mark.epoch)
  pub still : (mark : Mark) → Contains before.marks mark → Contains after.marks mark
  pub once : HasOneOfEachName before → HasOneOfEachName after

-- each promise for a change of the owner's own is an old one
abbrev pub AddsNoOwn : Memory → Memory → Type 0
AddsNoOwn before after = (signed : SignedPromise) → WasOwn after signed → WasOwn before signed

-- or is among these
abbrev pub AddsOwn : List SignedPromise → Memory → Memory → Type 0
AddsOwn changes before after = (signed : SignedPromise) → WasOwn after signed → WasOwn before signed ⊎ Contains changes signed

-- each of these promises is well formed, and was the owner's own before, or one of the lines asks for it
abbrev pub AreAsked : Option (List (List ℕ)) → Memory → List SignedPromise → Type 0
AreAsked lines known changes = AllByRecursion (λ (signed : SignedPromise). IsSignedPromise signed × (WasOwn known signed ⊎ IsAskedChange lines signed)) changes

-- no mark of the memory is above any of these promises, unless nothing was watched of it
abbrev pub AreLate : Memory → List SignedPromise → Type 0
AreLate known changes = AllByRecursion (λ (signed : SignedPromise). Fits signed.promise.epoch known) changes

-- these promises are for changes that are asked for, and those at which a state has yet to look are late
abbrev pub AreNew : Option (List (List ℕ)) → Memory → Option State → List SignedPromise → Type 0
AreNew lines known None changes = AreAsked lines known changes
AreNew lines known (Some state) changes = AreAsked lines known changes × AreLate state.memory (drop state.changes changes)

-- the scene of a client and its monitors, and of lines that are told and not yet written
abbrev pub standing : Client → List Monitor → List ℕ → Scene (Unit {0})
standing client monitors lines = record { client = client; monitors = monitors; finals = no_finals; told = record { lines = lines; status = 0 }; stream = tt }

module _ (hash : List ℕ → List ℕ) (accepted verified : List ℕ → List ℕ → List ℕ → Type 0) (lines : Option (List (List ℕ))) (key : List ℕ) (start : Found) (old : List ℕ) where
  -- What was kept in a run, and what is to be kept next, was told before. The output had one text before the run, which began
  -- with what was found. The text that is stored spells what was saved of the memory: all of it but these items. It has
  -- all promises for changes of the owner's own that were there. Roots that are added next are above this epoch.
  pub record IsKept (Happened : List Act → Type 0) (epoch : ℕ) (known : Memory) (unsaved : List Item) (out : Option (List ℕ)) : Type 0 where
    pub acts : List Act
    pub happened : Happened acts
    pub text : List ℕ
    pub is-out : out ≡ Some (old ++ text)
    pub all : AllKeepTold hash accepted (IsAsked lines) (IsOwnPromise verified key lines start.known) (IsAskedChange lines) (IsDropped None) start old acts
    pub saved : Memory
    pub had : (signed : SignedPromise) → WasOwn start.known signed → WasOwn saved signed
    pub whole : HasWholeLines (stored_after acts).text
    pub spells : Spells (stored_after acts).text (Ok saved)
    pub ahead : TakesAll unsaved saved known
    pub now : KeepsTold hash accepted (IsAsked lines) (IsOwnPromise verified key lines start.known) (IsAskedChange lines) (IsDropped None) start text (found_in (stored_after acts) saved)
    pub next : KeepsTold hash accepted (IsAsked lines) (IsOwnPromise verified key lines start.known) (IsAskedChange lines) (IsDropped None) start text (found_in (stored_after acts) known)
    pub early : (mark : Mark) → Contains start.known.marks mark → (root : SignedRoot) → Contains (stored_after acts).roots root → mark.since < root.body.epoch → root.body.epoch ≤ mark.epoch → Contains start.roots root
    pub low-start : Fits epoch start.known
    pub low : Fits epoch saved
    pub low-next : Fits epoch known
    pub begun : HasOneOfEachName start.known
    pub once : HasOneOfEachName known

  -- And the client, the monitors and the marks stand so to it. Promises for changes of the owner's own that were noted in the
  -- run are not earlier than those before them, and the memory has no others that are new.
  pub record Stands (Happened : List Act → Type 0) (epoch : ℕ) (known : Memory) (unsaved : List Item) (out : Option (List ℕ)) (noted : List SignedPromise) (now : Scene (Unit {0})) : Type 0 where
    pub kept : IsKept Happened epoch known unsaved out
    pub owns : Owns hash accepted verified (IsAsked lines) (IsOwnPromise verified key lines start.known) (noting start.known noted) kept.text (stored_after kept.acts).roots start.known.marks known.marks now
    pub own : (signed : SignedPromise) → WasOwn known signed → WasOwn (noting start.known noted) signed
    pub ascend : IsNonDecreasingBy (λ (signed : SignedPromise). signed.promise.epoch) noted
    pub later : (earlier later : SignedPromise) → WasOwn start.known earlier → Contains noted later → earlier.promise.epoch ≤ later.promise.epoch

  -- where there is a state; without one, nothing happens
  abbrev pub StateIsKept : (List Act → Type 0) → Option State → Option (List ℕ) → Type 0
  StateIsKept Happened None out = Happened []
  StateIsKept Happened (Some state) out = (unsaved : List Item) × IsKept Happened state.epoch state.memory unsaved out

  -- and all of its memory is saved
  abbrev pub StateIsSaved : (List Act → Type 0) → Option State → Option (List ℕ) → Type 0
  StateIsSaved Happened None out = Happened []
  StateIsSaved Happened (Some state) out = IsKept Happened state.epoch state.memory [] out

  abbrev pub StateStands : (List Act → Type 0) → Option State → Option (List ℕ) → List SignedPromise → Scene (Unit {0}) → Type 0
  StateStands Happened None out noted now = Happened []
  StateStands Happened (Some state) out noted now = Stands Happened state.epoch state.memory [] out noted now

-- the head of the client's chain is not above this epoch
abbrev pub IsUpTo : Client → ℕ → Type 0
IsUpTo client epoch = (head : SignedRoot) → IsHead client.chain head → head.body.epoch ≤ epoch

-- the client follows the key of what asks, and each promise that is held for a change of the owner's own is one
abbrev pub IsReady : {H V S : Type 0} → (List ℕ → List ℕ → List ℕ → Type 0) → Option (List (List ℕ)) → Memory → Asker H V S → Type 0
IsReady verified lines known asker = (asker.client.chain.key ≡ asker.key) × AllByRecursion (IsOwnPromise verified asker.key lines known) (asker.earlier.items ++ asker.changes.items) × AreEarlier known asker.earlier.items

-- a state in which nothing is kept yet
abbrev pub IsFresh : Option State → Type 0
IsFresh None = ⊤
IsFresh (Some state) = (state.memory ≡ nothing) × (state.epoch ≡ 0) × (state.is_loaded ≡ false) × (state.changes ≡ 0) × (state.finals ≡ 0)

-- a state that looked at no change yet
abbrev pub HasNoChanges : Option State → Type 0
HasNoChanges None = ⊤
HasNoChanges (Some state) = state.changes ≡ 0

-- A monitor under this key that has the roots of the client's chain from its first on: each change that it expects is of the
-- epoch of one of these.
pub record IsCurrent (key : List ℕ) (chain : KeyedRoots) (monitor : Monitor) : Type 0 where
  pub keyed : monitor.client.chain.key ≡ key
  pub covers : (first : SignedRoot) → IsFirst monitor.client.chain first → (root : SignedRoot) → Contains chain.roots root → first.body.epoch ≤ root.body.epoch → HasBody monitor.client.chain root
  pub low : AllByRecursion (λ (change : ℕ × BoundKey). (root : SignedRoot) × Contains chain.roots root × (change.0 ≡ root.body.epoch)) monitor.watch.changes

-- the state looked at all changes, and each monitor is so
abbrev pub IsInStep : {H V S : Type 0} → Option State → Asker H V S → Type 0
IsInStep None asker = ⊤
IsInStep (Some state) asker = (state.changes ≡ length asker.changes.items) × AllByRecursion (IsCurrent asker.key asker.client.chain) asker.monitors.items

module _ (hash : List ℕ → List ℕ) (accepted verified : List ℕ → List ℕ → List ℕ → Type 0) (lines : Option (List (List ℕ))) where
  -- so a run stands, where the lines of what was said are not yet written
  abbrev pub RunStands : {H V S : Type 0} → Found → List ℕ → (List Act → Type 0) → Asker H V S → List ℕ → Option State → Option (List ℕ) → Type 0
  RunStands start old Happened asker said state out = StateStands hash accepted verified lines asker.key start old Happened state out asker.changes.items (standing asker.client asker.monitors.items said)
      × (start.known.marks ≡ asker.marks.items) × IsReady verified lines start.known asker × IsInStep state asker

  -- what a run leaves: nothing was loaded, or all that was kept was told before
  abbrev pub IsLeft : List ℕ → List ℕ → (List Act → Type 0) → Option State → Option (List ℕ) → Type 0
  IsLeft key old Happened None out = Happened []
  IsLeft key old Happened (Some state) out = ((state.is_loaded ≡ false) × Happened []) ⊎ ((start : Found) × (unsaved : List Item) × IsKept hash accepted verified lines key start old Happened state.epoch state.memory unsaved out)

-- what is asked on a line is said by one of these lines
abbrev pub AsksAmong : Option (List (List ℕ)) → List ℕ → Type 0
AsksAmong lines line = (said : ScriptLine) → line_of line ≡ Some said → IsSaid lines said

-- what happens where a state is loaded, where nothing is stored, and where it cannot be loaded
abbrev pub HasLoaded : {H V S : Type 0} → (List Act → Type 0) → (List Act → Type 0) → Asker H V S → Option State → Type 0
HasLoaded Before After asker None = ⊥
HasLoaded Before After asker (Some state) = LoadsFor Before After asker
    × (state.memory ≡ asker.known) × (asker.marks.items ≡ asker.known.marks) × (asker.changes.items ≡ []) × AreWithin asker.client.chain asker.known × HasOneOfEachName asker.known × IsHeadEpoch asker.client.chain state.epoch
    × AreEarlier asker.known asker.earlier.items

abbrev pub HasBegun : (List Act → Type 0) → (List Act → Type 0) → Option State → Option State → Type 0
HasBegun Before After None after = (after ≡ None) × ((acts : List Act) → Before acts → After acts)
HasBegun Before After (Some before) after = (state : State) × (after ≡ Some state) × ((acts : List Act) → Before acts → After (Loads stored_nothing ∷ acts)) × (state.memory ≡ before.memory) × (state.epoch ≡ before.epoch)

abbrev pub HasFailed : (List Act → Type 0) → (List Act → Type 0) → Option State → Option State → Type 0
HasFailed Before After None after = ⊥
HasFailed Before After (Some before) after = (state : State) × (after ≡ Some state) × ((acts : List Act) → Before acts → After acts) × (state.is_loaded ≡ before.is_loaded)

-- what happens at the end: nothing, or the text of what is left of the memory is written anew, if it was loaded
abbrev pub LeavesState : (List Act → Type 0) → List Act → Option State → Option (List ℕ) → Type 0
LeavesState After acts None out = After acts
LeavesState After acts (Some state) out = After acts ⊎ ((state.is_loaded ≡ true) × ((tested : List SignedPromise) × (known : Memory) × Leaves tested state.memory known × After (Writes (memory_text known) out ∷ acts)))

-- what happens where a name is settled: nothing, or the text of what is left of the memory, without the alarms of the name, is
-- written anew, if it was loaded
abbrev pub SettlesState : List ℕ → (List Act → Type 0) → List Act → Option State → Option (List ℕ) → Type 0
SettlesState name After acts None out = After acts
SettlesState name After acts (Some state) out = After acts ⊎ ((state.is_loaded ≡ true)
    × ((tested : List SignedPromise) × (settled : Memory) × (known : Memory) × Settles name state.memory settled × Leaves tested settled known × After (Writes (memory_text known) out ∷ acts)))

-- so many alarms of a name are dropped of what a state remembers, its evidence stays, and what is left is written, unless
-- nothing is dropped, nothing was loaded, or no root is kept
abbrev pub DropsAlarms : List ℕ → (List Act → Type 0) → (List Act → Type 0) → ℕ → Option State → Option State → Option (List ℕ) → Type 0
DropsAlarms name Before After count None after out = (after ≡ None) × (count ≡ 0)
DropsAlarms name Before After count (Some before) after out = (state : State) × (settled : Memory) × (after ≡ Some state) × Settles name before.memory settled
    × (count + length settled.alarms ≡ length before.memory.alarms) × (state.memory.evidence ≡ before.memory.evidence)
    × ((before.is_loaded ≡ false) ⊎ ((before.epoch ≡ 0) ⊎ ((count ≡ 0) ⊎ ((acts : List Act) → Before acts → After (Writes (memory_text state.memory) out ∷ acts)))))
