-- Runs over the files of one state, one after another, the latest first.
use Rattle.std.specs.Prelude.{◌≡◌, ◌≢◌, ◌⊎◌, ℕ, List, [], ◌∷◌, ◌++◌, Any, Option, Some, Ok, ⊤}
use Rattle.encoding.specs.declared.bound_key.BoundKey.{BoundKey}
use Rattle.rootchain.specs.declared.signed_promise.SignedPromise.{SignedPromise}
use Rattle.rootchain.specs.declared.signed_root.SignedRoot.{SignedRoot}
use Rattle.memory.specs.Memories.{Memory}
use Rattle.memory.specs.Texts.{Spells}
use Rattle.memory.specs.Watching.{IsAwaited}
use Rattle.runs.specs.Saves.{found_in, stored_after, Act, AddsLines, AddsRoots, AllKeepTold, Counts, Found, IsAsked, IsAskedChange, IsDropped, IsOwnAhead, IsOwnPromise, Loads, Stored, WasOwn, WasStored, with_promises, Writes}
use Rattle.runs.specs.Told.{TellsEpoch}

-- A run: what was asked in it, what the output had before it, and what it did to the files. What the next run finds is their
-- text after some of that, the last that was done to them or an earlier, and these roots.
pub record StateRun (X : Type 0) : Type 0 where
  pub asked : X
  pub old : List ℕ
  pub acts : List Act
  pub left : List Act
  pub roots : List SignedRoot

-- the first of the acts loads this
abbrev pub FirstLoads : List Act → Stored → Type 0
FirstLoads acts found = (later : List Act) × (acts ≡ later ++ Loads found ∷ [])

-- these acts are the first of all
abbrev pub AreFirst : List Act → List Act → Type 0
AreFirst acts first = (first ≢ []) × ((later : List Act) × (acts ≡ later ++ first))

-- the roots that were there before, and the first of those that were added, or all
abbrev pub AreAdded : List SignedRoot → List SignedRoot → List SignedRoot → Type 0
AreAdded before roots after = (more rest : List SignedRoot) × (roots ≡ before ++ more) × (after ≡ roots ++ rest)

-- what the files have after the runs, where they had this before the first
abbrev pub left_by : {X : Type 0} → Stored → List (StateRun X) → Stored
left_by first [] = first
left_by first (run ∷ earlier) = record { roots = run.roots; text = (stored_after run.left).text }

-- this text was written, behind the old one, before the latest of the acts
abbrev pub WasWritten : List ℕ → List Act → List ℕ → Type 0
WasWritten old [] text = ⊥
WasWritten old (Loads stored ∷ acts) text = text ≡ []
WasWritten old (AddsRoots more out ∷ acts) text = out ≡ Some (old ++ text)
WasWritten old (AddsLines lines out ∷ acts) text = out ≡ Some (old ++ text)
WasWritten old (Writes anew out ∷ acts) text = out ≡ Some (old ++ text)

-- what the owner gave is known by what was asked, and which promises are for the owner's own changes by this and by the
-- memory that was loaded
module _ (hash : List ℕ → List ℕ) (accepted : List ℕ → List ℕ → List ℕ → Type 0) {X : Type 0} (Given : X → List ℕ → Option BoundKey → Type 0) (Own : X → Memory → SignedPromise → Type 0) where
  -- it is told of the root for the name in what one of the runs wrote before it did the last that is left, where promises
  -- count that were remembered before the run or are in what is left; or it was watched before all of them
  abbrev pub WasTold : Stored → List (StateRun X) → List ℕ → SignedRoot → Type 0
  WasTold first [] name root = (known : Memory) × Spells first.text (Ok known) × WasStored (found_in first known) name root
  WasTold first (run ∷ earlier) name root =
      ((found : Memory) × (now : Memory) × Spells (left_by first earlier).text (Ok found) × Spells (stored_after run.left).text (Ok now)
      × ((text : List ℕ) × WasWritten run.old run.left text
      × TellsEpoch (Given run.asked) (IsOwnAhead (Own run.asked found) found) (Counts (with_promises found now.promises)) hash accepted text name root)) ⊎ WasTold first earlier name root

  module _ (Asked : X → SignedPromise → Type 0) (Drops : X → List ℕ → Type 0) where
    -- each run finds what the files had after those before it, and keeps all told that it does to them
    abbrev pub AllRun : Stored → List (StateRun X) → Type 0
    AllRun first [] = ⊤
    AllRun first (run ∷ earlier) = FirstLoads run.acts (left_by first earlier) × ((start : Found) × AllKeepTold hash accepted (Given run.asked) (Own run.asked start.known) (Asked run.asked) (Drops run.asked) start run.old run.acts)
        × AreFirst run.acts run.left × AreAdded (left_by first earlier).roots run.roots (stored_after run.left).roots × AllRun first earlier

-- what the run left has a mark that awaits the promise
abbrev pub LeavesAwaited : {X : Type 0} → SignedPromise → StateRun X → Type 0
LeavesAwaited signed run = (known : Memory) × Spells (stored_after run.left).text (Ok known) × Any (IsAwaited signed) known.marks

-- the change that is promised was asked for in one of the runs, or was remembered as the owner's own before all of them
module _ {X : Type 0} (Asked : X → SignedPromise → Type 0) where
  abbrev pub WasAskedIn : Stored → List (StateRun X) → SignedPromise → Type 0
  WasAskedIn first [] signed = (known : Memory) × Spells first.text (Ok known) × WasOwn known signed
  WasAskedIn first (run ∷ earlier) signed = Asked run.asked signed ⊎ WasAskedIn first earlier signed

-- the lines that a run asked, if they are known; and the name whose alarms it settled, if it did
pub record RunOrder : Type 0 where
  pub lines : Option (List (List ℕ))
  pub settled : Option (List ℕ)

-- the run does not settle the alarms of this name
abbrev pub LeavesUnsettled : List ℕ → StateRun RunOrder → Type 0
LeavesUnsettled name run = ¬ IsDropped run.asked.settled name

module _ (hash : List ℕ → List ℕ) (accepted verified : List ℕ → List ℕ → List ℕ → Type 0) (key : List ℕ) where
  -- so it is where the owner gave what the lines say, and promises are signed with this key
  abbrev pub AllRunUnder : Stored → List (StateRun RunOrder) → Type 0
  AllRunUnder = AllRun hash accepted (λ (order : RunOrder). IsAsked order.lines) (λ (order : RunOrder). IsOwnPromise verified key order.lines) (λ (order : RunOrder). IsAskedChange order.lines)
      (λ (order : RunOrder). IsDropped order.settled)

  -- and this is told
  abbrev pub WasToldUnder : Stored → List (StateRun RunOrder) → List ℕ → SignedRoot → Type 0
  WasToldUnder = WasTold hash accepted (λ (order : RunOrder). IsAsked order.lines) (λ (order : RunOrder). IsOwnPromise verified key order.lines)

-- the change that is promised was asked for in one of these runs, or was remembered as the owner's own before all of them
abbrev pub WasAskedFor : Stored → List (StateRun RunOrder) → SignedPromise → Type 0
WasAskedFor = WasAskedIn (λ (order : RunOrder). IsAskedChange order.lines)
