-- A fault that comes between the steps of a line.
use Rattle.std.proofs.Common.{◌≡◌, ◌≢◌, ◌⊎◌, ◌<◌, ℕ, List, ◌++◌, [], ◌∷◌, length, Option, Some, Result, Ok, Err, Global, Vec, refl, rules, subst, inl, inr}
use Rattle.std.specs.Prelude.{IfErr}
use Rattle.encoding.specs.declared.bound_key.BoundKey.{BoundKey}
use Rattle.rootchain.specs.Chains.{IsHead}
use Rattle.rootchain.specs.declared.signed_promise.SignedPromise.{SignedPromise}
use Rattle.rootchain.specs.declared.signed_root.SignedRoot.{SignedRoot}
use Rattle.monitor.specs.Monitors.{Monitor}
use Rattle.wire.specs.Frames.{Frame}
use Rattle.wire.specs.Requests.{RequestContent}
use Rattle.asking.specs.declared.asker.Asker.{Asker}
use Rattle.memory.specs.declared.mark.Mark.{Mark}
use Rattle.asking.specs.declared.ask_fault.AskFault.{AskFault}
use Rattle.asking.specs.declared.ask_fault.AskFault.TheVariants.{NoReply, OutOfMemory}
use Rattle.asking.specs.declared.said.Said.{Said}
use Rattle.asking.specs.Asking.{GoesSomeAbove, Hands, HearsSome, Notes}
use Rattle.asking.specs.Checking.{HearsFrame}
use Rattle.asking.specs.FinalBindings.{NotesHeard}
use Rattle.asking.specs.Joining.{BeginsAt, BeginsSomeAt, WatchesSome, IsJoined, IsUnwatched}
use Rattle.asking.specs.Reports.{Report, report_of, told_after}
use Rattle.asking.specs.Scenes.{HaltsAfter, Scene, scene}
use Rattle.asking.specs.Visiting.{AwaitsMonitor, FindsSomeKept, TestsSomeNamed}
use Rattle.asking.specs.Watching.{GoesSome, StepsSome}
use Rattle.asking.proofs.Joined.{scene_of}

-- no reply came, and nothing changed
pub halts_here : {H V S T : Type 0} (asker : Asker H V S) (said : Said) (stream : T) (IsReached : Scene T → Type 0) (fault : AskFault) → IsReached (scene asker said stream) → HaltsAfter IsReached fault asker said
halts_here asker said stream IsReached fault is = (scene asker said stream, is, (refl, λ none. (refl, refl, refl)))

no-memory : OutOfMemory ≢ NoReply
no-memory same = search (rules, same)

-- memory ran out, and nothing was told of what came
pub halts_untold : {H V S T : Type 0} (asker last : Asker H V S) (said said' : Said) (stream : T) (IsReached : Scene T → Type 0) → IsReached (scene asker said stream) → report_of said' ≡ report_of said
    → HaltsAfter IsReached OutOfMemory last said'
halts_untold asker last said said' stream IsReached is same = (scene asker said stream, is, (same, λ none. absurd (no-memory none)))

module _ {H V S T : Type 0} (hash : List ℕ → List ℕ) (accepted verified : List ℕ → List ℕ → List ℕ → Type 0) (exchanged : T → RequestContent → Frame → T → Type 0) where
  -- monitors and promises went on, since the head was above an epoch
  pub halts_above : {A : Type 0} (result : Result A AskFault) (marks : List Mark) (asker last : Asker H V S) (said said' : Said) (stream : T) (head : SignedRoot) (epoch : ℕ) → IsHead asker.client.chain head
      → epoch < head.body.epoch → IfErr result (λ fault. HaltsAfter (GoesSome hash accepted exchanged marks (scene asker said stream)) fault last said')
      → IfErr result (λ fault. HaltsAfter (GoesSomeAbove hash accepted verified exchanged marks epoch (scene asker said stream)) fault last said')
  halts_above (Ok done) marks asker last said said' stream head epoch is high halts = tt
  halts_above (Err fault) marks asker last said said' stream head epoch is high (reached, goes, halts) = (reached, (head, is, high, goes), halts)

  module _ (asked : RequestContent) (frame : Frame) (held : ℕ) (first : Asker H V S) (said : Said) (stream : T) where
    -- a frame was heard, and perhaps told
    pub halts_hearing : (fault : AskFault) (last : Asker H V S) (said' : Said) → fault ≢ NoReply → fault ≡ OutOfMemory
        → (last.changes.items ≡ first.changes.items) ⊎ Notes asked first.client.promises last.client.promises first.changes.items last.changes.items
        → ((report_of said' ≡ report_of said) × (last.changes.items ≡ first.changes.items)) ⊎ ((told : Report) × (shown : Report) × HearsFrame hash accepted verified held first.client asked frame told last.client
        × NotesHeard hash accepted last.client asked frame told.status first.finals shown last.finals × (report_of said' ≡ told_after (report_of said) (told_after told shown)))
        → HaltsAfter (HearsSome hash accepted verified exchanged fault first.marks.items held asked frame first.changes.items last.changes.items (scene first said stream)) fault last said'
    halts_hearing fault last said' not out noted (inl (same, none)) = (scene first said stream, inl (none, refl), (same, λ none. absurd (not none)))
    halts_hearing fault last said' not out noted (inr (told, shown, hears, notes_it, tells)) =
        let reached : Scene T = record { client = last.client; monitors = first.monitors.items; finals = last.finals; told = report_of said'; stream = stream } in
        let notes : (last.changes.items ≡ first.changes.items) ⊎ ((fault ≡ OutOfMemory) × Notes asked first.client.promises last.client.promises first.changes.items last.changes.items) = elim noted [
          | inl none ↦ inl none
          | inr more ↦ inr (out, more)
        ] in
        (reached, inr (inl (notes, told, hears, (shown, notes_it, tells), refl, refl)), (refl, λ none. absurd (not none)))

    -- it was, and monitors and promises went on
    pub halts_going : {A : Type 0} (result : Result A AskFault) (heard last : Asker H V S) (told_to said' : Said) (told shown handed : Report)
        → HearsFrame hash accepted verified held first.client asked frame told heard.client
        → NotesHeard hash accepted heard.client asked frame told.status first.finals shown heard.finals
        → Hands hash accepted verified asked frame.body first.client.promises heard.client.promises first.monitors.items handed heard.monitors.items
        → report_of told_to ≡ told_after (told_after (report_of said) (told_after told shown)) handed
        → Notes asked first.client.promises heard.client.promises first.changes.items last.changes.items → heard.marks ≡ first.marks
        → IfErr result (λ fault. HaltsAfter (GoesSomeAbove hash accepted verified exchanged heard.marks.items held (scene heard told_to stream)) fault last said')
        → IfErr result (λ fault. HaltsAfter (HearsSome hash accepted verified exchanged fault first.marks.items held asked frame first.changes.items last.changes.items (scene first said stream)) fault last said')
    halts_going (Ok done) heard last told_to said' told shown handed hears noted hands tells notes same halts = tt
    halts_going (Err fault) heard last told_to said' told shown handed hears noted hands tells notes same (reached, goes, halts) =
        let there : Scene T = scene heard told_to stream in
        let above = subst (λ (m : Vec Mark Global). GoesSomeAbove hash accepted verified exchanged m.items held there reached) same goes in
        (reached, inr (inr (there, record { told = told; hears = hears; shown = shown; notes = noted; handed = handed; hands = hands; tells = tells; stream = refl }, notes, above)), halts)

  module _ (key : List ℕ) (promised : List SignedPromise) (name : List ℕ) (given : Option BoundKey) (asker : Asker H V S) (said : Said) (stream : T) (first : SignedRoot) where
    -- a monitor was added, and took some steps
    pub halts_stepping : {A : Type 0} (marks : List Mark) (result : Result A AskFault) (added last : Asker H V S) (said' : Said) (monitor : Monitor) (place : ℕ) → added.client ≡ asker.client → added.finals ≡ asker.finals
        → added.monitors.items ≡ asker.monitors.items ++ monitor ∷ [] → place ≡ length asker.monitors.items → IsJoined hash accepted verified marks key promised asker.client.chain first name given monitor
        → IfErr result (λ fault. HaltsAfter (StepsSome hash accepted exchanged (scene added said stream) place) fault last said')
        → IfErr result (λ fault. HaltsAfter (BeginsSomeAt hash accepted verified exchanged marks key promised name given first (scene asker said stream)) fault last said')
    halts_stepping marks (Ok done) added last said' monitor place client finals monitors at begun halts = tt
    halts_stepping marks (Err fault) added last said' monitor place client finals monitors at begun (reached, steps, halts) =
        let same = scene_of added.client asker.client added.monitors.items (asker.monitors.items ++ monitor ∷ []) added.finals asker.finals (report_of said) (report_of said) stream client monitors finals refl in
        let here = subst (λ (n : ℕ). StepsSome hash accepted exchanged (scene added said stream) n reached) at steps in
        (reached, inr (monitor, begun, subst (λ (s : Scene T). StepsSome hash accepted exchanged s (length asker.monitors.items) reached) same here), halts)

    -- the watch began, and some promises of the name were tested
    pub halts_begun : {A : Type 0} (result : Result A AskFault) (marks marks' : Vec Mark Global) (middle : Scene T) (last : Asker H V S) (said' : Said)
        → IsUnwatched asker.client.chain name marks.items (Some first) → marks' ≡ marks
        → BeginsAt hash accepted verified exchanged marks.items key promised name given first (scene asker said stream) middle
        → IfErr result (λ fault. HaltsAfter (TestsSomeNamed hash accepted exchanged marks'.items name middle) fault last said')
        → IfErr result (λ fault. HaltsAfter (WatchesSome hash accepted verified exchanged marks.items key promised name given (scene asker said stream)) fault last said')
    halts_begun (Ok done) marks marks' middle last said' unwatched same begun halts = tt
    halts_begun (Err fault) marks marks' middle last said' unwatched same begun (reached, tests, halts) =
        (reached, inr (first, unwatched, inr (middle, begun, subst (λ (ms : Vec Mark Global). TestsSomeNamed hash accepted exchanged ms.items name middle reached) same tests)), halts)

  -- the promises of a name that does not wait were tested, or some
  pub halts_free : {A : Type 0} (result : Result A AskFault) (marks : List Mark) (name : List ℕ) (before : Scene T) (last : Asker H V S) (said' : Said) → ¬ AwaitsMonitor marks before.monitors name
      → IfErr result (λ fault. HaltsAfter (FindsSomeKept hash accepted exchanged name before) fault last said')
      → IfErr result (λ fault. HaltsAfter (TestsSomeNamed hash accepted exchanged marks name before) fault last said')
  halts_free (Ok done) marks name before last said' free halts = tt
  halts_free (Err fault) marks name before last said' free (reached, finds, halts) = (reached, (free, finds), halts)
