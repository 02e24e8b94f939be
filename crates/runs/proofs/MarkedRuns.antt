-- What a whole run leaves has a mark for each monitor, and so has what the runs after it leave.
use Rattle.std.proofs.Common.{◌≡◌, ◌∙◌, ◌⊎◌, ℕ, List, [], ◌∷◌, ◌++◌, Contains, Option, None, Some, Result, Ok, Err, ap, arith, inl, inr, refl, subst, sym}
use Rattle.std.specs.Prelude.{IfOk, IfSome, OnErr, OnOk}
use Rattle.std.specs.List.{AllByRecursion}
use Rattle.std.proofs.lemmas.Bool.{cases_lt}
use Rattle.encoding.specs.declared.bound_key.BoundKey.{BoundKey}
use Rattle.rootchain.specs.declared.signed_promise.SignedPromise.{SignedPromise}
use Rattle.rootchain.specs.declared.signed_root.SignedRoot.{SignedRoot}
use Rattle.memory.specs.Memories.{Memory}
use Rattle.memory.specs.Texts.{memory_text, Spells}
use Rattle.memory.specs.declared.mark.Mark.{Mark}
use Rattle.monitor.specs.Monitors.{Monitor}
use Rattle.textio.specs.declared.program_fault.ProgramFault.{ProgramFault}
use Rattle.wire.specs.Frames.{Frame}
use Rattle.wire.specs.Requests.{RequestContent}
use Rattle.runs.specs.AskOptions.{AskOptions}
use Rattle.runs.specs.Ending.{EndsWith}
use Rattle.runs.specs.Keeping.{IsSettled}
use Rattle.runs.specs.Marking.{HasMarkOf, IsFrom, IsToWatch, IsUnlooked, LeavesMarked, MarksOn, RunsMarked, StateMarks, StoresMarks}
use Rattle.runs.specs.Runs.{AsksLines, Background, lines_asked, Prepares, StartsRun, Writes as WritesScene}
use Rattle.runs.specs.Saves.{stored_after, Act, Found, Stored, Writes}
use Rattle.asking.specs.Scenes.{Scene}
use Rattle.runs.specs.Standing.{standing, LeavesState, RunStands, StateIsSaved}
use Rattle.runs.specs.StateRuns.{left_by, AllRun, StateRun, WasTold}
use Rattle.runs.specs.declared.run_fault.RunFault.{RunFault}
use Rattle.asking.specs.declared.asker.Asker.{Asker}
use Rattle.runs.specs.declared.run.RunEnd.{RunEnd}
use Rattle.runs.specs.declared.run.RunEnd.TheVariants.{Whole}
use Rattle.asking.specs.declared.said.Said.{Said}
use Rattle.runs.specs.declared.state.State.{State}
use Rattle.runs.proofs.Ended.{begun-with, writes_with}
use Rattle.runs.proofs.Left.{left-spelled, left-told}
use Rattle.runs.proofs.OwnedRoots.{all-has}
use Rattle.runs.proofs.StateRuns.{marks-over-runs, told-over-runs}
use Rattle.runs.proofs.Written.{state-saved}

-- what holds on success, and what holds of what settled, lead to something else
pub ok_settled : {A P Q R : Type 0} (result : Result A RunFault) → OnOk result P → (IsSettled result → Q) → (P → Q → R) → OnOk result R
ok_settled (Ok done) holds settled leads = leads holds (settled tt)
ok_settled (Err why) holds settled leads = tt

pub ok_all : {A P Q R S U : Type 0} (result : Result A RunFault) → OnOk result P → OnOk result Q → OnOk result R → (IsSettled result → S) → (P → Q → R → S → U) → OnOk result U
ok_all (Ok done) one other third settled leads = leads one other third (settled tt)
ok_all (Err why) one other third settled leads = tt

pub ok_both : {A E P Q R : Type 0} (result : Result A E) → OnOk result P → OnOk result Q → (P → Q → R) → OnOk result R
ok_both (Ok done) one other leads = leads one other
ok_both (Err why) one other leads = tt

-- ---- step by step

pub marks-first : (state : Option State) (monitors : List Monitor) → monitors ≡ [] → IsUnlooked state → StateMarks state monitors
marks-first None monitors none unlooked = tt
marks-first (Some state) monitors none unlooked = subst (StateMarks (Some state)) (sym none) (unlooked, tt, tt)

pub marks-same : (state : Option State) (monitors : List Monitor) → MarksOn state monitors state monitors
marks-same state monitors = ((λ none. none), λ marked. marked)

pub marks-then : (first middle last : Option State) (before between after : List Monitor) → MarksOn first before middle between → MarksOn middle between last after → MarksOn first before last after
marks-then first middle last before between after one other = ((λ none. one.0 (other.0 none)), λ marked. other.1 (one.1 marked))

-- all of the memory is saved where the run stands
pub run-saved : {H V S : Type 0} (hash : List ℕ → List ℕ) (accepted verified : List ℕ → List ℕ → List ℕ → Type 0) (lines : Option (List (List ℕ))) (start : Found) (old : List ℕ) (Happened : List Act → Type 0) (asker : Asker H V S) (said : List ℕ)
    (state : Option State) (out : Option (List ℕ)) (key : List ℕ) → asker.key ≡ key → RunStands hash accepted verified lines start old Happened asker said state out → StateIsSaved hash accepted verified lines key start old Happened state out
run-saved hash accepted verified lines start old Happened asker said state out key same stands =
    subst (λ (k : List ℕ). StateIsSaved hash accepted verified lines k start old Happened state out) same
    (state-saved hash accepted verified lines asker.key start old Happened state out asker.changes.items (standing asker.client asker.monitors.items said) stands.0)

-- ---- a whole run

module _ {T : Type 0} (hash : List ℕ → List ℕ) (accepted verified : List ℕ → List ℕ → List ℕ → Type 0) (exchanged : T → RequestContent → Frame → T → Type 0) (key token : List ℕ) (options : AskOptions) where
  -- its lines are asked to the end, and all is saved
  pub whole-marked : (HasNoState : Type 0) (background background' : Background) (stream : T) (start ready last : Scene T) (input out now new : Option (List ℕ)) (old : List ℕ) (Happened : List Act → Type 0) (state : Option State) (found : Found)
      → StartsRun hash accepted verified exchanged key token HasNoState stream background start → WritesScene (Prepares hash accepted verified exchanged background HasNoState) start out now ready → background' ≡ background
      → IfSome (lines_asked options.words input) (λ lines. AsksLines hash accepted verified exchanged background' lines ready now new last)
      → (state ≡ None → HasNoState) → found.known.marks ≡ background.marks → StateIsSaved hash accepted verified (lines_asked options.words input) key found old Happened state new → StateMarks state last.monitors
      → RunsMarked hash accepted verified exchanged key token options HasNoState stream last.stream input last.told.status out new old Happened state
  whole-marked HasNoState background background' stream start ready last input out now new old Happened state found begun prepares same asks none alike saved marks = (
    record {
      background = background;
      start = start;
      begun = begun;
      ready = ready;
      now = now;
      prepares = prepares;
      last = last;
      asks = subst (λ (b : Background). IfSome (lines_asked options.words input) (λ lines. AsksLines hash accepted verified exchanged b lines ready now new last)) same asks;
      status_is = refl;
      left = refl;
    },
    none,
    (found, alike, saved, marks),
  )

  -- the files of its state are left
  pub leaves-marked : (HasNoState : Type 0) (stream stream' : T) (input : Option (List ℕ)) (status : ℕ) (out out' : Option (List ℕ)) (old : List ℕ) (Before After : List Act → Type 0) (acts : List Act) (state : Option State)
      → RunsMarked hash accepted verified exchanged key token options HasNoState stream stream' input status out out' old (λ done. Before (done ++ acts)) state → ((all : List Act) → Before all → LeavesState After all state out')
      → LeavesMarked hash accepted verified exchanged key token options HasNoState stream stream' input status out out' old (λ done. After (done ++ acts))
  leaves-marked HasNoState stream stream' input status out out' old Before After acts None (run, none, (start, same, saved, marks)) hands = (run, ([], hands acts saved, inl (none refl, refl)))
  leaves-marked HasNoState stream stream' input status out out' old Before After acts (Some state) (run, none, (start, same, kept, (count, have, ordered))) hands = elim (hands (kept.acts ++ acts) kept.happened) [
    | inl left ↦ (run, (kept.acts, left, inr (start, same, kept.all, (state.memory, subst (λ (m : Memory). Spells (stored_after kept.acts).text (Ok m)) (sym kept.ahead) kept.spells, have))))
    | inr (loaded, (tested, left, leaves, has)) ↦
        let lines = lines_asked options.words input in
        let spells = left-spelled (stored_after kept.acts).text kept.saved state.memory left [] tested kept.spells kept.ahead leaves in
        let told = left-told hash accepted verified lines key old Before After acts out' None start kept.text (stored_after kept.acts).roots state.memory left tested leaves kept.next in (
          run,
          (
            Writes (memory_text left) out' ∷ kept.acts,
            has,
            inr (
              start,
              same,
              (kept.all, (kept.text, kept.is-out, (left, spells, told))),
              (left, spells, subst (λ (ms : List Mark). AllByRecursion (HasMarkOf ms) run.last.monitors) (sym (ap (λ (m : Memory). m.marks) leaves.1)) have),
            ),
          ),
        )
  ]

  -- and the run ends
  module _ (NoState None' : Type 0) (without : None' → NoState) (within : NoState → None') (stream stream' : T) (input out : Option (List ℕ)) (old : List ℕ) (Happened : List Act → Type 0) where
    abbrev Marked : Type 0 → ℕ → Option (List ℕ) → Type 0
    Marked HasNoState status new = LeavesMarked hash accepted verified exchanged key token options HasNoState stream stream' input status out new old Happened

    marked-with : (status : ℕ) (new : Option (List ℕ)) → Marked NoState status new → Marked None' status new
    marked-with status new (run, (acts, has, left)) = (
      record {
        background = run.background;
        start = run.start;
        begun = begun-with hash accepted verified exchanged key token options NoState None' without within run.background stream run.start run.begun;
        ready = run.ready;
        now = run.now;
        prepares = writes_with hash accepted verified exchanged key token options NoState None' without within run.background run.start out run.now run.ready run.prepares;
        last = run.last;
        asks = run.asks;
        status_is = run.status_is;
        left = run.left;
      },
      (
        acts,
        has,
        elim left [
          | inl (none, empty) ↦ inl (within none, empty)
          | inr more ↦ inr more
        ],
      ),
    )

    same-status : (status status' : ℕ) → ◌≡◌ {A = Result RunEnd ProgramFault} (Ok (Whole status)) (Ok (Whole status')) → status ≡ status'
    same-status status status' e = cc

    pub ends-marked : (Failed : Type 0) (outcome : Result (Unit {0}) RunFault) (result : Result RunEnd ProgramFault) (said : Said) (new new' : Option (List ℕ)) → OnOk outcome (Marked NoState said.status new)
        → OnOk outcome ((result ≡ Ok (Whole said.status)) × (new' ≡ new)) → OnErr outcome (IfOk result (EndsWith Failed said new new')) → (status : ℕ) → result ≡ Ok (Whole status) → Marked None' status new'
    ends-marked Failed (Ok done) result said new new' marked (is, same) stops status ends =
        let one = same-status said.status status (sym is ∙ ends) in
        subst (λ (n : ℕ). Marked None' n new') one (subst (Marked None' said.status) (sym same) (marked-with said.status new marked))
    ends-marked Failed (Err why) result said new new' marked same stops status ends =
        absurd (subst (λ (r : Result RunEnd ProgramFault). IfOk r (EndsWith Failed said new new')) ends stops)

-- ---- over runs

module _ (hash : List ℕ → List ℕ) (accepted : List ℕ → List ℕ → List ℕ → Type 0) {X : Type 0} (Given : X → List ℕ → Option BoundKey → Type 0) (Own : X → Memory → SignedPromise → Type 0) (Asked : X → SignedPromise → Type 0) (Drops : X → List ℕ → Type 0) where
  -- from the first root of a monitor on, each was told, or is still to be watched
  pub watched-over-runs : (first : Stored) (later earlier : List (StateRun X)) (run : StateRun X) (monitors : List Monitor) → AllRun hash accepted Given Own Asked Drops first (later ++ run ∷ earlier) → StoresMarks (stored_after run.left) monitors
      → (known : Memory) → Spells (left_by first (later ++ run ∷ earlier)).text (Ok known) → (monitor : Monitor) → Contains monitors monitor → (root : SignedRoot) → Contains (left_by first (later ++ run ∷ earlier)).roots root → IsFrom monitor root
      → WasTold hash accepted Given Own first (later ++ run ∷ earlier) monitor.name root ⊎ IsToWatch known.marks monitor.name root
  watched-over-runs first later earlier run monitors all (was, spells, have) known spelled monitor among root there (begin, at, from) =
      let (mark, has, named, low) = all-has (HasMarkOf was.marks) monitors monitor have among in
      let (now, still, alike, less, far) = marks-over-runs hash accepted Given Own Asked Drops first later (run ∷ earlier) all was known spells spelled mark has in
      let above = low begin at in
      elim (cases_lt now.epoch root.body.epoch) [
        | inl left ↦ inr (now, still, alike ∙ named, left)
        | inr below ↦ inl (subst (λ (name : List ℕ). WasTold hash accepted Given Own first (later ++ run ∷ earlier) name root) (alike ∙ named)
            (told-over-runs hash accepted Given Own Asked Drops first (later ++ run ∷ earlier) all known spelled now still root there (omega (arith, above, less, from)) below))
      ]
