-- Each name that a run watches has a mark.
use Rattle.std.specs.Prelude.{◌≡◌, ◌⊎◌, ℕ, ◌<◌, ◌≤◌, List, [], ◌∷◌, Contains, length, Option, Some, None, Ok, ⊤}
use Rattle.std.specs.List.{AllByRecursion}
use Rattle.rootchain.specs.Places.{IsFirst}
use Rattle.rootchain.specs.declared.signed_root.SignedRoot.{SignedRoot}
use Rattle.memory.specs.Memories.{Memory}
use Rattle.memory.specs.Texts.{Spells}
use Rattle.memory.specs.declared.mark.Mark.{Mark}
use Rattle.monitor.specs.Monitors.{Monitor}
use Rattle.wire.specs.Frames.{Frame}
use Rattle.wire.specs.Requests.{RequestContent}
use Rattle.runs.specs.AskOptions.{AskOptions}
use Rattle.runs.specs.Runs.{lines_asked, RunsWhole}
use Rattle.runs.specs.Saves.{stored_after, Act, AllKeepTold, Found, IsAsked, IsAskedChange, IsDropped, IsOwnPromise, Stored}
use Rattle.runs.specs.Standing.{StateIsSaved}
use Rattle.runs.specs.declared.state.State.{State}

-- one of these marks is of the name that the monitor watches, and begins before the first root of its chain
abbrev pub HasMarkOf : List Mark → Monitor → Type 0
HasMarkOf marks monitor = (mark : Mark) × Contains marks mark × (mark.name ≡ monitor.name) × ((first : SignedRoot) → IsFirst monitor.client.chain first → mark.since < first.body.epoch)

-- the text that is stored spells a memory in which each of these monitors has one
abbrev pub StoresMarks : Stored → List Monitor → Type 0
StoresMarks stored monitors = (known : Memory) × Spells stored.text (Ok known) × AllByRecursion (HasMarkOf known.marks) monitors

-- the root is the first of the monitor's chain, or one of a later epoch
abbrev pub IsFrom : Monitor → SignedRoot → Type 0
IsFrom monitor root = (first : SignedRoot) × IsFirst monitor.client.chain first × (first.body.epoch ≤ root.body.epoch)

-- the epoch of the root is still to be watched for the name: it is above the mark
abbrev pub IsToWatch : List Mark → List ℕ → SignedRoot → Type 0
IsToWatch marks name root = (mark : Mark) × Contains marks mark × (mark.name ≡ name) × (mark.epoch < root.body.epoch)

-- of two monitors of one name the first begins no later
abbrev pub BeginsNoLater : Monitor → Monitor → Type 0
BeginsNoLater earlier later = later.name ≡ earlier.name → (first second : SignedRoot) → IsFirst earlier.client.chain first → IsFirst later.client.chain second → first.body.epoch ≤ second.body.epoch

abbrev pub AreOrdered : List Monitor → Type 0
AreOrdered [] = ⊤
AreOrdered (monitor ∷ more) = AllByRecursion (BeginsNoLater monitor) more × AreOrdered more

-- a state has looked at no monitor yet
abbrev pub IsUnlooked : Option State → Type 0
IsUnlooked None = ⊤
IsUnlooked (Some state) = state.monitors ≡ 0

-- it has looked at all of these, each has a mark, and of those of one name the first begins no later
abbrev pub StateMarks : Option State → List Monitor → Type 0
StateMarks None monitors = ⊤
StateMarks (Some state) monitors = (state.monitors ≡ length monitors) × AllByRecursion (HasMarkOf state.memory.marks) monitors × AreOrdered monitors

-- it stays so, and a state is not lost
abbrev pub MarksOn : Option State → List Monitor → Option State → List Monitor → Type 0
MarksOn before monitors after monitors' = (after ≡ None → before ≡ None) × (StateMarks before monitors → StateMarks after monitors')

module _ (hash : List ℕ → List ℕ) (accepted verified : List ℕ → List ℕ → List ℕ → Type 0) {T : Type 0} (exchanged : T → RequestContent → Frame → T → Type 0) (key token : List ℕ) (options : AskOptions) (HasNoState : Type 0)
    (stream stream' : T) (input : Option (List ℕ)) (status : ℕ) (out out' : Option (List ℕ)) (old : List ℕ) (Happened : List Act → Type 0) where
  -- a whole run, at the end of which all of this is saved, and each monitor has a mark
  abbrev pub RunsMarked : Option State → Type 0
  RunsMarked state = (run : RunsWhole hash accepted verified exchanged key token options HasNoState stream stream' input status out out')
      × (state ≡ None → HasNoState) × ((start : Found) × (start.known.marks ≡ run.background.marks)
      × StateIsSaved hash accepted verified (lines_asked options.words input) key start old Happened state out' × StateMarks state run.last.monitors)

  -- A whole run, and what it did to what is kept: it kept all told, and at its end a mark is stored for each of its monitors,
  -- which begins no later than that watches. Where there is no state, nothing is done.
  abbrev pub LeavesMarked : Type 0
  LeavesMarked = (run : RunsWhole hash accepted verified exchanged key token options HasNoState stream stream' input status out out')
      × ((acts : List Act) × Happened acts × ((HasNoState × (acts ≡ [])) ⊎ ((start : Found) × (start.known.marks ≡ run.background.marks)
      × AllKeepTold hash accepted (IsAsked (lines_asked options.words input)) (IsOwnPromise verified key (lines_asked options.words input) start.known) (IsAskedChange (lines_asked options.words input)) (IsDropped None) start old acts
      × StoresMarks (stored_after acts) run.last.monitors)))
