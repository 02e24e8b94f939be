-- What comes of a run once the files of its state are left.
use Rattle.std.proofs.Common.{◌≡◌, ◌⊎◌, ◌∙◌, ℕ, ◌<◌, Bool, true, false, List, [], ◌∷◌, ◌++◌, Any, Contains, Option, Some, None, Result, Ok, Err, ap, inl, inr, refl, subst, sym, zero, suc, arith}
use Rattle.std.specs.Prelude.{IfErr, OnErr, OnOk}
use Rattle.textio.specs.declared.program_fault.ProgramFault.{ProgramFault}
use Rattle.rootchain.specs.declared.signed_promise.SignedPromise.{SignedPromise}
use Rattle.rootchain.specs.declared.signed_root.SignedRoot.{SignedRoot}
use Rattle.memory.specs.Leaving.{Leaves, Settles}
use Rattle.memory.specs.Memories.{HoldsEachOnce, Memory}
use Rattle.memory.specs.Texts.{memory_text, HoldsSound, Spells, TakesAll}
use Rattle.memory.specs.Watching.{IsAwaited}
use Rattle.memory.specs.declared.item.Item.{Item}
use Rattle.memory.specs.declared.mark.Mark.{Mark}
use Rattle.memory.specs.declared.promised.Promised.{Promised}
use Rattle.memory.proofs.Recalled.{spells-memory}
use Rattle.memory.proofs.Sound.{leaves-once, leaves-sound, settles-once, settles-sound, spelled-once, spelled-sound, taken-once, taken-sound}
use Rattle.runs.specs.Saves.{found_in, stored_after, Act, AddsLines, AddsRoots, AllKeepTold, Found, HasMark, IsAsked, IsAskedChange, IsDropped, IsOwnPromise, KeepsTold, LeavesTold, Loads, SpellsTold, Stored, Writes}
use Rattle.runs.specs.Standing.{IsLeft, LeavesState, SettlesState}
use Rattle.runs.specs.declared.state.State.{State}
use Rattle.runs.specs.Ending.{LoadsNone}
use Rattle.runs.specs.RunFaults.{IsFaultOfSaving, StopsOr}
use Rattle.runs.specs.declared.lateness.Limit.{Limit}
use Rattle.runs.specs.declared.run_fault.RunFault.{RunFault}
use Rattle.runs.specs.declared.run_fault.RunFault.TheVariants.{Program}
use Rattle.textio.specs.declared.program_fault.ProgramFault.TheVariants.{CannotWrite}
use Rattle.runs.proofs.AskedOwn.{leaves-awaited, leaves-own}
use Rattle.runs.proofs.Faulty.{stops_more}
use Rattle.runs.proofs.KeptTold.{settling-kept, told-counted}
use Rattle.runs.proofs.Noting.{same-own}
use Rattle.runs.proofs.Staying.{leaves-alarms, leaves-evidence, leaves-finals, no-name, settles-alarms, settles-evidence, settles-finals}

-- if all is well, all was asked
pub asked_left : (P : Type 0) (asked left : Result (Unit {0}) RunFault) → OnOk left (asked ≡ Ok tt) → OnOk asked P → OnOk left P
asked_left P asked (Ok done) is holds = subst (λ (r : Result (Unit {0}) RunFault). OnOk r P) is holds
asked_left P asked (Err why) is holds = tt

-- the fault is that of the questions, or of saving
pub faults_left : (Holds : ProgramFault → Type 0) (asked left : Result (Unit {0}) RunFault) → ((fault : ProgramFault) → IsFaultOfSaving fault → Holds fault)
    → IfErr left (λ fault. (asked ≡ Err fault) ⊎ ((asked ≡ Ok tt) × StopsOr IsFaultOfSaving fault)) → IfErr asked (StopsOr Holds) → IfErr left (StopsOr Holds)
faults_left Holds asked (Ok done) more is holds = tt
faults_left Holds asked (Err why) more (inl is) holds = subst (λ (r : Result (Unit {0}) RunFault). IfErr r (StopsOr Holds)) is holds
faults_left Holds asked (Err why) more (inr (is, saving)) holds = stops_more {A = Unit {0}} IsFaultOfSaving Holds (Err why) more saving

asked-not : (asked : Result (Unit {0}) RunFault) (fault : ProgramFault) → asked ≡ Ok tt → asked ≡ Err (Program fault) → ⊥
asked-not asked fault is failed = cc

well-not : (asked : Result (Unit {0}) RunFault) → asked ≡ Ok tt → asked ≡ Err (Program CannotWrite) → ⊥
well-not asked is failed = cc

-- and a write that failed before still did
pub failed_left : (asked left : Result (Unit {0}) RunFault) → IfErr left (λ fault. (asked ≡ Err fault) ⊎ ((asked ≡ Ok tt) × StopsOr IsFaultOfSaving fault)) → OnErr left (asked ≡ Err (Program CannotWrite) → left ≡ Err (Program CannotWrite))
failed_left asked (Ok done) more = tt
failed_left asked (Err why) (inl is) = λ failed. sym is ∙ failed
failed_left asked (Err why) (inr (is, saving)) = λ failed. absurd (well-not asked is failed)

-- a state that could not be read still could not
pub loads_left : (HasNoState : Type 0) (asked left : Result (Unit {0}) RunFault) (before after : Limit) (status : ℕ) → IfErr left (λ fault. (asked ≡ Err fault) ⊎ ((asked ≡ Ok tt) × StopsOr IsFaultOfSaving fault))
    → OnErr left (LoadsNone HasNoState asked before after status → LoadsNone HasNoState left before after status)
loads_left HasNoState asked (Ok done) before after status more = tt
loads_left HasNoState asked (Err why) before after status (inl is) = λ (fault, was, some, state, last, low). (fault, sym is ∙ was, some, state, last, low)
loads_left HasNoState asked (Err why) before after status (inr (is, saving)) = λ (fault, was, some, state, last, low). absurd (asked-not asked fault is was)

not-both : (b : Bool) → b ≡ false → b ≡ true → ⊥
not-both b one other = cc

-- the text of what is left of a memory spells it
anew-spelled : (known left : Memory) (tested : List SignedPromise) → HoldsEachOnce known → HoldsSound known → Leaves tested known left → Spells (memory_text left) (Ok left)
anew-spelled known left tested once sound leaves = spells-memory left (leaves-once tested known left leaves once) (leaves-sound tested known left leaves sound)

pub left-spelled : (text : List ℕ) (saved known left : Memory) (unsaved : List Item) (tested : List SignedPromise) → Spells text (Ok saved) → TakesAll unsaved saved known → Leaves tested known left → Spells (memory_text left) (Ok left)
left-spelled text saved known left unsaved tested spells takes =
    anew-spelled known left tested (taken-once unsaved saved known takes (spelled-once text saved spells)) (taken-sound unsaved saved known takes (spelled-sound text saved spells))

-- and so does that of what is left without the alarms of a name
settled-spelled : (name text : List ℕ) (saved known settled left : Memory) (unsaved : List Item) (tested : List SignedPromise) → Spells text (Ok saved) → TakesAll unsaved saved known → Settles name known settled → Leaves tested settled left
    → Spells (memory_text left) (Ok left)
settled-spelled name text saved known settled left unsaved tested spells takes settles =
    anew-spelled settled left tested (settles-once name known settled settles (taken-once unsaved saved known takes (spelled-once text saved spells)))
    (settles-sound name known settled settles (taken-sound unsaved saved known takes (spelled-sound text saved spells)))

-- what keeps the alarms of all names keeps all told whatever name is settled
module _ (hash : List ℕ → List ℕ) (accepted verified : List ℕ → List ℕ → List ℕ → Type 0) (lines : Option (List (List ℕ))) (key : List ℕ) (settled : Option (List ℕ)) (start : Found) (old : List ℕ) where
  spells-settling : (text : List ℕ) (stored : Stored) → SpellsTold hash accepted (IsAsked lines) (IsOwnPromise verified key lines start.known) (IsAskedChange lines) (IsDropped None) start text stored
      → SpellsTold hash accepted (IsAsked lines) (IsOwnPromise verified key lines start.known) (IsAskedChange lines) (IsDropped settled) start text stored
  spells-settling text stored (known, spells, keeps) = (
    known,
    spells,
    settling-kept hash accepted (IsAsked lines) (IsOwnPromise verified key lines start.known) (IsAskedChange lines) (IsDropped None) (IsDropped settled) start text (found_in stored known) (λ name none. absurd (no-name name none)) keeps,
  )

  pub all-settling : (acts : List Act) → AllKeepTold hash accepted (IsAsked lines) (IsOwnPromise verified key lines start.known) (IsAskedChange lines) (IsDropped None) start old acts
      → AllKeepTold hash accepted (IsAsked lines) (IsOwnPromise verified key lines start.known) (IsAskedChange lines) (IsDropped settled) start old acts
  all-settling [] all = all
  all-settling (Loads stored ∷ acts) all = all
  all-settling (AddsRoots more out ∷ acts) (all, (text, is, spells)) = (all-settling acts all, (text, is, spells-settling text (stored_after (AddsRoots more out ∷ acts)) spells))
  all-settling (AddsLines more out ∷ acts) (all, (text, is, spells)) = (all-settling acts all, (text, is, spells-settling text (stored_after (AddsLines more out ∷ acts)) spells))
  all-settling (Writes anew out ∷ acts) (all, (text, is, spells)) = (all-settling acts all, (text, is, spells-settling text (stored_after (Writes anew out ∷ acts)) spells))

-- what a run left is told, also once the memory is written anew
module _ (hash : List ℕ → List ℕ) (accepted verified : List ℕ → List ℕ → List ℕ → Type 0) (lines : Option (List (List ℕ))) (key : List ℕ) (old : List ℕ) (Before After : List Act → Type 0) (acts : List Act) (out : Option (List ℕ)) where
  pub left-told : (settled : Option (List ℕ)) (start : Found) (text : List ℕ) (roots : List SignedRoot) (known left : Memory) (tested : List SignedPromise) → Leaves tested known left
      → KeepsTold hash accepted (IsAsked lines) (IsOwnPromise verified key lines start.known) (IsAskedChange lines) (IsDropped settled) start text (record { roots = roots; known = known })
      → KeepsTold hash accepted (IsAsked lines) (IsOwnPromise verified key lines start.known) (IsAskedChange lines) (IsDropped settled) start text (record { roots = roots; known = left })
  left-told settled start text roots known left tested leaves told =
      let same : left.marks ≡ known.marks = ap (λ (m : Memory). m.marks) leaves.1 in
      record {
        grows = told.grows;
        stays = subst (λ (ms : List Mark). (mark : Mark) → Contains start.known.marks mark → HasMark start.roots ms mark) (sym same) told.stays;
        told = λ mark has root among above below. told-counted hash accepted (IsAsked lines) (IsOwnPromise verified key lines start.known) (IsAskedChange lines) (IsDropped settled) start known left text mark.name root
            (λ signed was early. inr (leaves-own tested known left leaves signed was)) (told.told mark (subst (λ (ms : List Mark). Contains ms mark) same has) root among above below);
        own = λ signed was. told.own signed (leaves-own tested known left leaves signed was);
        awaits = λ signed was awaited. let here = subst (λ (ms : List Mark). Any (IsAwaited signed) ms) same awaited in leaves-awaited tested known left leaves signed (told.awaits signed was here) here;
        alarms = λ alarm has. elim (told.alarms alarm has) [
          | inl there ↦ inl (leaves-alarms tested known left leaves alarm there)
          | inr dropped ↦ inr dropped
        ];
        evidence = λ line has. leaves-evidence tested known left leaves line (told.evidence line has);
        finals = λ seen has. leaves-finals tested known left leaves seen (told.finals seen has);
      }

  pub leaves_told : (state : Option State) → IsLeft hash accepted verified lines key old (λ done. Before (done ++ acts)) state out → ((all : List Act) → Before all → LeavesState After all state out)
      → LeavesTold hash accepted verified lines None key old (λ done. After (done ++ acts))
  leaves_told None left hands = ([], hands acts left, inl refl)
  leaves_told (Some state) (inl (unloaded, left)) hands = elim (hands acts left) [
    | inl same ↦ ([], same, inl refl)
    | inr (loaded, more) ↦ absurd (not-both state.is_loaded unloaded loaded)
  ]
  leaves_told (Some state) (inr (start, unsaved, kept)) hands = elim (hands (kept.acts ++ acts) kept.happened) [
    | inl same ↦ (kept.acts, same, inr (start, kept.all))
    | inr (loaded, (tested, left, leaves, has)) ↦ (
      Writes (memory_text left) out ∷ kept.acts,
      has,
      inr (
        start,
        (
          kept.all,
          (
            kept.text,
            kept.is-out,
            (
              left,
              left-spelled (stored_after kept.acts).text kept.saved state.memory left unsaved tested kept.spells kept.ahead leaves,
              left-told None start kept.text (stored_after kept.acts).roots state.memory left tested leaves kept.next,
            ),
          ),
        ),
      ),
    )
  ]

  -- no alarm is a mark, nor a promise
  settled-told : (name : List ℕ) (start : Found) (text : List ℕ) (roots : List SignedRoot) (known settled : Memory) → Settles name known settled
      → KeepsTold hash accepted (IsAsked lines) (IsOwnPromise verified key lines start.known) (IsAskedChange lines) (IsDropped None) start text (record { roots = roots; known = known })
      → KeepsTold hash accepted (IsAsked lines) (IsOwnPromise verified key lines start.known) (IsAskedChange lines) (IsDropped (Some name)) start text (record { roots = roots; known = settled })
  settled-told name start text roots known settled settles told =
      let same : settled.marks ≡ known.marks = ap (λ (m : Memory). m.marks) settles.1 in
      let kept : settled.promises ≡ known.promises = ap (λ (m : Memory). m.promises) settles.1 in
      record {
        grows = told.grows;
        stays = subst (λ (ms : List Mark). (mark : Mark) → Contains start.known.marks mark → HasMark start.roots ms mark) (sym same) told.stays;
        told = λ mark has root among above below. told-counted hash accepted (IsAsked lines) (IsOwnPromise verified key lines start.known) (IsAskedChange lines) (IsDropped (Some name)) start known settled text mark.name root
            (λ signed (promised, there, this, own) early. inr (promised, subst (λ (ps : List Promised). Contains ps promised) kept there, this, own)) (told.told mark (subst (λ (ms : List Mark). Contains ms mark) same has) root among above below);
        own = λ signed (promised, has, this, own). told.own signed (promised, subst (λ (ps : List Promised). Contains ps promised) kept has, this, own);
        awaits = λ signed was awaited. same-own known settled kept signed (told.awaits signed was (subst (λ (ms : List Mark). Any (IsAwaited signed) ms) same awaited));
        alarms = λ alarm has. elim (told.alarms alarm has) [
          | inl there ↦ elim (settles-alarms name known settled settles alarm there) [
            | inl still ↦ inl still
            | inr named ↦ inr (ap Some (sym named))
          ]
          | inr dropped ↦ absurd (no-name alarm.name dropped)
        ];
        evidence = λ line has. settles-evidence name known settled settles line (told.evidence line has);
        finals = λ seen has. settles-finals name known settled settles seen (told.finals seen has);
      }

  -- a name is settled
  pub settles_told : (name : List ℕ) (state : Option State) → IsLeft hash accepted verified lines key old (λ done. Before (done ++ acts)) state out → ((all : List Act) → Before all → SettlesState name After all state out)
      → LeavesTold hash accepted verified lines (Some name) key old (λ done. After (done ++ acts))
  settles_told name None left hands = ([], hands acts left, inl refl)
  settles_told name (Some state) (inl (unloaded, left)) hands = elim (hands acts left) [
    | inl same ↦ ([], same, inl refl)
    | inr (loaded, more) ↦ absurd (not-both state.is_loaded unloaded loaded)
  ]
  settles_told name (Some state) (inr (start, unsaved, kept)) hands = elim (hands (kept.acts ++ acts) kept.happened) [
    | inl same ↦ (kept.acts, same, inr (start, all-settling hash accepted verified lines key (Some name) start old kept.acts kept.all))
    | inr (loaded, (tested, settled, left, settles, leaves, has)) ↦ (
      Writes (memory_text left) out ∷ kept.acts,
      has,
      inr (
        start,
        (
          all-settling hash accepted verified lines key (Some name) start old kept.acts kept.all,
          (
            kept.text,
            kept.is-out,
            (
              left,
              settled-spelled name (stored_after kept.acts).text kept.saved state.memory settled left unsaved tested kept.spells kept.ahead settles leaves,
              left-told (Some name) start kept.text (stored_after kept.acts).roots settled left tested leaves (settled-told name start kept.text (stored_after kept.acts).roots state.memory settled settles kept.next),
            ),
          ),
        ),
      ),
    )
  ]

-- nothing more is done to the files
pub leaves_same : (hash : List ℕ → List ℕ) (accepted verified : List ℕ → List ℕ → List ℕ → Type 0) (lines : Option (List (List ℕ))) (settled : Option (List ℕ)) (key : List ℕ) (old : List ℕ) (Now : List Act → Type 0) (acts : List Act) (out : Option (List ℕ)) (state : Option State)
    → IsLeft hash accepted verified lines key old (λ done. Now (done ++ acts)) state out → LeavesTold hash accepted verified lines settled key old (λ done. Now (done ++ acts))
leaves_same hash accepted verified lines settled key old Now acts out None left = ([], left, inl refl)
leaves_same hash accepted verified lines settled key old Now acts out (Some state) (inl (unloaded, left)) = ([], left, inl refl)
leaves_same hash accepted verified lines settled key old Now acts out (Some state) (inr (start, unsaved, kept)) = (kept.acts, kept.happened, inr (start, all-settling hash accepted verified lines key settled start old kept.acts kept.all))

-- where alarms are dropped, the size of what is kept is not that of what is to be kept
unsized : (size : Option ℕ) (length : ℕ) → size ≡ None → size ≡ Some length → ⊥
unsized size length none some = cc

pub settled_writes : (count : ℕ) (size : Option ℕ) (length : ℕ) (A B C A' B' : Type 0) → (A → A') → (B → B') → (0 < count → size ≡ None) → A ⊎ (B ⊎ ((size ≡ Some length) ⊎ C)) → A' ⊎ (B' ⊎ ((count ≡ 0) ⊎ C))
settled_writes count size length A B C A' B' one other unsaved (inl a) = inl (one a)
settled_writes count size length A B C A' B' one other unsaved (inr (inl b)) = inr (inl (other b))
settled_writes zero size length A B C A' B' one other unsaved (inr (inr (inl is))) = inr (inr (inl refl))
settled_writes (suc count) size length A B C A' B' one other unsaved (inr (inr (inl is))) = absurd (unsized size length (unsaved (omega arith)) is)
settled_writes count size length A B C A' B' one other unsaved (inr (inr (inr c))) = inr (inr (inr c))
