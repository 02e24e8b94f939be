-- How a run stands once more is written.
use Rattle.std.proofs.Common.{◌≡◌, ◌≢◌, ◌⊎◌, ℕ, List, [], ◌++◌, Option, Some, None, Result, Ok, Err, ap, inl, inr, refl, subst}
use Rattle.std.specs.Prelude.{OnOk}
use Rattle.std.specs.Io.KnownBytes.{Appends}
use Rattle.textio.specs.Output.{WritesSome}
use Rattle.client.specs.Clients.{Client}
use Rattle.memory.specs.Memories.{Memory}
use Rattle.memory.specs.declared.item.Item.{Item}
use Rattle.monitor.specs.Monitors.{Monitor}
use Rattle.rootchain.specs.declared.signed_promise.SignedPromise.{SignedPromise}
use Rattle.runs.specs.Saves.{stored_after, noting, Act, Found, IsAsked, IsOwnPromise}
use Rattle.asking.specs.Scenes.{Scene}
use Rattle.runs.specs.Standing.{standing, IsLeft, Stands, StateIsKept, StateIsSaved, StateStands}
use Rattle.asking.specs.declared.ask_fault.AskFault.{AskFault}
use Rattle.asking.specs.declared.ask_fault.AskFault.TheVariants as fault
use Rattle.runs.specs.declared.state.State.{State}
use Rattle.runs.proofs.OwnedScenes.{owns-written}
use Rattle.runs.proofs.Stood.{kept-out}

-- a question fails for want of memory, or it does not
not-stopped : {A : Type 0} → ◌≡◌ {A = Result A AskFault} (Err fault.Stopped) (Err fault.OutOfMemory) → ⊥
not-stopped e = cc

not-silent : {A : Type 0} → ◌≡◌ {A = Result A AskFault} (Err fault.NoReply) (Err fault.OutOfMemory) → ⊥
not-silent e = cc

not-asked : {A : Type 0} (done : A) → ◌≡◌ {A = Result A AskFault} (Ok done) (Err fault.OutOfMemory) → ⊥
not-asked done e = cc

pub memory-cases : {A : Type 0} (asked : Result A AskFault) → (asked ≡ Err fault.OutOfMemory) ⊎ (asked ≢ Err fault.OutOfMemory)
memory-cases (Ok done) = inr (not-asked done)
memory-cases (Err fault.NoReply) = inr not-silent
memory-cases (Err fault.Stopped) = inr not-stopped
memory-cases (Err fault.OutOfMemory) = inl refl

appended : (old more : List ℕ) (now : Option (List ℕ)) → Appends (Some old) now more → now ≡ Some (old ++ more)
appended old more None appends = absurd appends
appended old more (Some new) appends = ap Some appends

module _ (hash : List ℕ → List ℕ) (accepted verified : List ℕ → List ℕ → List ℕ → Type 0) (lines : Option (List (List ℕ))) (key : List ℕ) (start : Found) (old : List ℕ) (Happened : List Act → Type 0) where
  -- some of a text is written
  pub state-written : (state : Option State) (out out' : Option (List ℕ)) (text : List ℕ) → WritesSome out out' text → StateIsKept hash accepted verified lines key start old Happened state out
      → StateIsKept hash accepted verified lines key start old Happened state out'
  state-written None out out' text writes kept = kept
  state-written (Some state) out out' text (rest, (front, parts, appends)) (unsaved, kept) = (
    unsaved,
    kept-out hash accepted verified lines key start old Happened state.epoch state.memory unsaved out kept out' front
        (appended (old ++ kept.text) front out' (subst (λ (o : Option (List ℕ)). Appends o out' front) kept.is-out appends)),
  )

  stands-written : (epoch : ℕ) (known : Memory) (unsaved : List Item) (out out' : Option (List ℕ)) (noted : List SignedPromise) (client : Client) (monitors : List Monitor) (said : List ℕ) → Appends out out' said
      → Stands hash accepted verified lines key start old Happened epoch known unsaved out noted (standing client monitors said) → Stands hash accepted verified lines key start old Happened epoch known unsaved out' noted (standing client monitors [])
  stands-written epoch known unsaved out out' noted client monitors said appends stands = record {
    kept = kept-out hash accepted verified lines key start old Happened epoch known unsaved out stands.kept out' said
        (appended (old ++ stands.kept.text) said out' (subst (λ (o : Option (List ℕ)). Appends o out' said) stands.kept.is-out appends));
    owns = owns-written hash accepted verified (IsAsked lines) (IsOwnPromise verified key lines start.known) (noting start.known noted) start.known.marks stands.kept.text (stored_after stands.kept.acts).roots known.marks (standing client monitors said) 0 stands.owns;
    own = stands.own;
    ascend = stands.ascend;
    later = stands.later;
  }

  -- all that was said is
  pub state-stands-written : (state : Option State) (out out' : Option (List ℕ)) (noted : List SignedPromise) (client : Client) (monitors : List Monitor) (said : List ℕ) → Appends out out' said
      → StateStands hash accepted verified lines key start old Happened state out noted (standing client monitors said) → StateStands hash accepted verified lines key start old Happened state out' noted (standing client monitors [])
  state-stands-written None out out' noted client monitors said appends stands = stands
  state-stands-written (Some state) out out' noted client monitors said appends stands = stands-written state.epoch state.memory [] out out' noted client monitors said appends stands

  pub saved-kept : (state : Option State) (out : Option (List ℕ)) → StateIsSaved hash accepted verified lines key start old Happened state out → StateIsKept hash accepted verified lines key start old Happened state out
  saved-kept None out saved = saved
  saved-kept (Some state) out saved = ([], saved)

  -- what was saved, or only in part after a fault
  pub some-saved : {A E : Type 0} (result : Result A E) (state : State) (out : Option (List ℕ)) (noted : List SignedPromise) (now : Scene (Unit {0}))
      → (unsaved : List Item) × Stands hash accepted verified lines key start old Happened state.epoch state.memory unsaved out noted now × OnOk result (unsaved ≡ [])
      → StateIsKept hash accepted verified lines key start old Happened (Some state) out × OnOk result (StateStands hash accepted verified lines key start old Happened (Some state) out noted now)
  some-saved (Ok done) state out noted now (unsaved, stands, all) =
      ((unsaved, stands.kept), subst (λ (items : List Item). Stands hash accepted verified lines key start old Happened state.epoch state.memory items out noted now) all stands)
  some-saved (Err fault) state out noted now (unsaved, stands, all) = ((unsaved, stands.kept), tt)

  pub state-saved : (state : Option State) (out : Option (List ℕ)) (noted : List SignedPromise) (now : Scene (Unit {0})) → StateStands hash accepted verified lines key start old Happened state out noted now → StateIsSaved hash accepted verified lines key start old Happened state out
  state-saved None out noted now stands = stands
  state-saved (Some state) out noted now stands = stands.kept

  pub state-kept : (state : Option State) (out : Option (List ℕ)) (noted : List SignedPromise) (now : Scene (Unit {0})) → StateStands hash accepted verified lines key start old Happened state out noted now → StateIsKept hash accepted verified lines key start old Happened state out
  state-kept None out noted now stands = stands
  state-kept (Some state) out noted now stands = ([], stands.kept)

  pub state-left : (state : Option State) (out : Option (List ℕ)) → StateIsKept hash accepted verified lines key start old Happened state out → IsLeft hash accepted verified lines key old Happened state out
  state-left None out kept = kept
  state-left (Some state) out (unsaved, kept) = inr (start, unsaved, kept)
