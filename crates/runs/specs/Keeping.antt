-- What a run adds to what is remembered.
use Rattle.std.specs.Prelude.{◌≡◌, ◌≢◌, ◌⊎◌, ◌↔◌, ◌||◌, ℕ, Bool, true, false, if◌then◌else◌, List, [], ◌++◌, drop, length, map, Option, None, Some, Result, Ok, Err, ⊤}
use Rattle.textio.specs.Lines.{lines_of}
use Rattle.rootchain.specs.Chains.{IsHead, KeyedRoots}
use Rattle.rootchain.specs.declared.signed_promise.SignedPromise.{SignedPromise}
use Rattle.rootchain.specs.declared.signed_root.SignedRoot.{SignedRoot}
use Rattle.monitor.specs.Monitors.{Monitor}
use Rattle.memory.specs.Learning.{promised_item, AreGone, BeginsOne, Each, IsFresh, LearnsFinal, LearnsLine, LearnsOne, MarksOne}
use Rattle.memory.specs.Memories.{Memory}
use Rattle.memory.specs.declared.final_seen.FinalSeen.{FinalSeen}
use Rattle.memory.specs.declared.item.Item.{Item}
use Rattle.memory.specs.declared.kind.Kind.TheVariants.{Alarms, EvidenceLines}
use Rattle.runs.specs.RunFaults.{IsFaultOfSaving}
use Rattle.runs.specs.Saves.{IsHeadEpoch}
use Rattle.asking.specs.declared.ask_fault.AskFault.TheVariants.{NoReply, Stopped, OutOfMemory}
use Rattle.runs.specs.declared.run_fault.RunFault.{RunFault}
use Rattle.runs.specs.declared.run_fault.RunFault.TheVariants as run
use Rattle.asking.specs.declared.asker.Asker.{Asker}
use Rattle.runs.specs.declared.state.State.{State}

-- the promises for changes of the owner's own are learned, and those of the client's that are behind the last one that is
-- remembered
abbrev pub LearnsPromises : List SignedPromise → List SignedPromise → Memory → List Item → Memory → Type 0
LearnsPromises own kept before news after = (fresh : List SignedPromise) × IsFresh before kept fresh
    × ((first : List Item) × (middle : Memory) × (rest : List Item) × Each LearnsOne (map (promised_item true) own) before first middle
    × Each LearnsOne (map (promised_item false) fresh) middle rest after × (news ≡ first ++ rest))

-- and then replies that stated keys with Final
abbrev pub LearnsKept : List SignedPromise → List SignedPromise → List FinalSeen → Memory → List Item → Memory → Type 0
LearnsKept own kept finals before news after = (first : List Item) × (middle : Memory) × (rest : List Item) × LearnsPromises own kept before first middle × Each LearnsFinal finals middle rest after × (news ≡ first ++ rest)

-- these were tested: those that are remembered and that the client no longer keeps; or none, where it is not known which it keeps
abbrev pub AreTested : Memory → Option (List SignedPromise) → List SignedPromise → Type 0
AreTested known None tested = tested ≡ []
AreTested known (Some kept) tested = AreGone known kept tested

-- before it is told: the evidence in what will be told, promises, replies that stated keys with Final, and from where new
-- monitors watch
abbrev pub LearnsBefore : List SignedPromise → List SignedPromise → List FinalSeen → List ℕ → List Monitor → Memory → Memory → Type 0
LearnsBefore own kept finals told begun before after = (shown : List Item) × (promised : List Item) × (marked : List Item) × (one : Memory) × (two : Memory)
    × Each (LearnsLine EvidenceLines) (lines_of told) before shown one × LearnsKept own kept finals one promised two × Each BeginsOne begun two marked after

-- whether the head is another one than that of this epoch
abbrev pub IsNewHead : KeyedRoots → ℕ → Bool → Type 0
IsNewHead chain epoch is_new = (root : SignedRoot) × IsHead chain root × ((is_new ≡ true) ↔ (root.body.epoch ≢ epoch))

-- the monitors whose marks may move: all of them if the head is another one, or was when it was last looked; or else those
-- that are new
abbrev pub MayMove : KeyedRoots → ℕ → Bool → ℕ → List Monitor → List Monitor → Type 0
MayMove chain head was_new known monitors some = (is_new : Bool) × IsNewHead chain head is_new × (some ≡ drop (if is_new || was_new then 0 else known) monitors)

-- once it is told: the alarms in it, and how far names were watched
abbrev pub LearnsAfter : List ℕ → List Monitor → List Monitor → Memory → Memory → Type 0
LearnsAfter told monitors some before after = (alarms : List Item) × (marked : List Item) × (middle : Memory)
    × Each (LearnsLine Alarms) (lines_of told) before alarms middle × Each (MarksOne monitors) some middle marked after

-- all was asked, or the directory stopped it: neither a fault of the program nor want of memory did
abbrev pub IsSettled : {A : Type 0} → Result A RunFault → Type 0
IsSettled (Ok done) = ⊤
IsSettled (Err (run.Ask NoReply)) = ⊤
IsSettled (Err (run.Ask Stopped)) = ⊤
IsSettled (Err (run.Ask OutOfMemory)) = ⊥
IsSettled (Err (run.Program fault)) = ⊥

-- what a state learns before this is told, and how far it looked; where there is none, nothing is kept
abbrev pub AddsTo : {H V S : Type 0} → Asker H V S → List ℕ → Option State → Option State → Type 0
AddsTo asker told None after = after ≡ None
AddsTo asker told (Some before) after = (kept : State) × (after ≡ Some kept)
    × LearnsBefore (drop before.changes asker.changes.items) asker.client.promises (drop before.finals asker.finals.seen) told (drop before.monitors asker.monitors.items) before.memory kept.memory
    × (kept.head ≡ before.head) × (kept.monitors ≡ before.monitors) × (kept.was_new ≡ before.was_new) × (kept.changes ≡ length asker.changes.items) × (kept.finals ≡ length asker.finals.seen)

-- what it learns once it is told, and how far it looked
abbrev pub SavesTo : {H V S : Type 0} → Asker H V S → List ℕ → Option State → Option State → Type 0
SavesTo asker told None after = after ≡ None
SavesTo asker told (Some before) after = (kept : State) × (after ≡ Some kept)
    × ((some : List Monitor) × MayMove asker.client.chain before.head before.was_new before.monitors asker.monitors.items some × LearnsAfter told asker.monitors.items some before.memory kept.memory)
    × IsHeadEpoch asker.client.chain kept.head × IsNewHead asker.client.chain before.head kept.was_new × (kept.monitors ≡ length asker.monitors.items) × (kept.changes ≡ before.changes) × (kept.finals ≡ before.finals)

-- both
abbrev pub KeepsUp : {H V S : Type 0} → Asker H V S → List ℕ → Option State → Option State → Type 0
KeepsUp asker told before after = (middle : Option State) × AddsTo asker told before middle × SavesTo asker told middle after

-- no write failed, and memory did not run out
abbrev pub IsKeptUp : {A : Type 0} → Result A RunFault → Type 0
IsKeptUp (Ok done) = ⊤
IsKeptUp (Err (run.Ask fault)) = fault ≢ OutOfMemory
IsKeptUp (Err (run.Program fault)) = ¬ IsFaultOfSaving fault

-- What is known to be still kept by the client: nothing, or just these promises, where the state was kept up.
abbrev pub IsStillKept : {A : Type 0} → Option State → List SignedPromise → Result A RunFault → Option (List SignedPromise) → Type 0
IsStillKept None promises asked kept = kept ≡ None
IsStillKept (Some state) promises asked kept = (kept ≡ None) ⊎ (IsKeptUp asked × (kept ≡ Some promises))
