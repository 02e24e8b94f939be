-- Monitors that took a step.
use Rattle.std.proofs.Common.{◌≡◌, ◌∙◌, ◌-◌, ◌<◌, ◌≤◌, ℕ, zero, suc, Bool, true, false, List, [], ◌∷◌, Option, Some, None, Result, Ok, Err, Global, Vec, ap, arith, length, refl, rules, subst, sym, inl, inr, slice_set}
use Rattle.std.specs.Prelude.{slice_get, IfErr, OnOk}
use Rattle.std.proofs.lemmas.List.Elements.{All-contains}
use Rattle.commands.specs.Operations.{Lookup}
use Rattle.rootchain.specs.declared.body.Body.{Body}
use Rattle.rootchain.specs.declared.signed_root.SignedRoot.{SignedRoot}
use Rattle.proofs.specs.Comparisons.{IsAcceptedReply}
use Rattle.monitor.specs.Monitors.{IsNext, Monitor}
use Rattle.monitor.specs.Stepping.{IsNextEpoch}
use Rattle.wire.specs.Frames.{Frame}
use Rattle.wire.specs.Requests.{RequestContent, Query}
use Rattle.asking.specs.declared.asker.Asker.{Asker}
use Rattle.asking.specs.declared.ask_fault.AskFault.{AskFault}
use Rattle.asking.specs.declared.said.Said.{Said}
use Rattle.asking.specs.FinalBindings.{NotesReply}
use Rattle.asking.specs.Reports.{Report, Tells, report_of, silent, told_after}
use Rattle.memory.specs.declared.mark.Mark.{Mark}
use Rattle.asking.specs.Scenes.{GivesBody, HaltsAfter, Scene, scene}
use Rattle.asking.specs.Visiting.{TestsAll, TestsSome}
use Rattle.asking.specs.Watching.{AllStep, GoesOn, GoesSome, IsAcceptedAt, SomeStep, StepsOnce, StepsSome, StepsThrough, TestsShown, WatchesAt, WatchesBy}
use Rattle.asking.proofs.Going.{told_onto}
use Rattle.asking.proofs.Handed.{told_silent}

same-some : {X : Type 0} (x y : X) (o : Option X) → o ≡ Some x → o ≡ Some y → x ≡ y
same-some x y o one other = search (rules, sym one ∙ other)

none-some : {X : Type 0} (x : X) (o : Option X) → o ≡ None → o ≡ Some x → ⊥
none-some x o one other = search (rules, sym one ∙ other)

-- an element that is set to itself
pub set_to_itself : {X : Type 0} (xs : List X) (k : ℕ) (x : X) → slice_get xs k ≡ Some x → xs ≡ slice_set xs k x
set_to_itself [] k x at = refl
set_to_itself (y ∷ ys) zero x at = ap (λ z. z ∷ ys) (same-some y x (Some y) refl at)
set_to_itself (y ∷ ys) (suc k) x at = ap (λ zs. y ∷ zs) (set_to_itself ys k x at)

-- two roots that are next are of one epoch
one-epoch : (monitor : Monitor) (one other : SignedRoot) → IsNext monitor one → IsNext monitor other → one.body.epoch ≡ other.body.epoch
one-epoch monitor one other is also =
    let low = All-contains (λ (x : SignedRoot). monitor.watched < x.body.epoch → one.body.epoch ≤ x.body.epoch) monitor.client.chain.roots other is.2 also.0 also.1 in
    let high = All-contains (λ (x : SignedRoot). monitor.watched < x.body.epoch → other.body.epoch ≤ x.body.epoch) monitor.client.chain.roots one also.2 is.0 is.1 in
    omega (arith, low, high)

-- the client of a monitor that watched an epoch accepted the reply
pub accepted_at : (hash : List ℕ → List ℕ) (accepted : List ℕ → List ℕ → List ℕ → Type 0) (monitors : List Monitor) (place epoch : ℕ) (name reply : List ℕ) (said now : Said) (went : Bool) (after : List Monitor) (monitor : Monitor)
    → slice_get monitors place ≡ Some monitor → name ≡ monitor.name → IsNextEpoch monitor (Some epoch) → WatchesAt hash accepted monitors place epoch reply said went now after → went ≡ true → IsAcceptedAt hash accepted name epoch reply
accepted_at hash accepted monitors place epoch name reply said now true after monitor at named next (inl (none, stopped, still, same)) went_on = absurd (none-some monitor (slice_get monitors place) none at)
accepted_at hash accepted monitors place epoch name reply said now true after monitor at named (late, its, epochs) (inr (seen, watched, there, (told, (step, (root, read, (own, is), tells, stays), is-told), told-now), set)) went_on =
    let same : seen ≡ monitor = same-some seen monitor (slice_get monitors place) there at in
    let here : IsNext monitor root = subst (λ (one : Monitor). IsNext one root) same own in
    let by_name = subst (λ (n : List ℕ). IsAcceptedReply hash accepted root.body n reply read) (ap (λ (one : Monitor). one.name) same ∙ sym named) is in
    (read, (by_name.0, refl, by_name.2), ap (λ (b : Body). b.epoch) by_name.1 ∙ one-epoch monitor root late here its ∙ epochs)
accepted_at hash accepted monitors place epoch name reply said now false after monitor at named next watches went_on = absurd cc

module _ {H V S T : Type 0} (hash : List ℕ → List ℕ) (accepted : List ℕ → List ℕ → List ℕ → Type 0) (exchanged : T → RequestContent → Frame → T → Type 0) where
  module _ (asker : Asker H V S) (said : Said) (stream : T) (place : ℕ) (monitor : Monitor) (spelled : List ℕ) (epoch : ℕ) (frame : Frame) (later : T) where
    -- the frame was no answer
    pub steps_none : (said' : Said) → slice_get asker.monitors.items place ≡ Some monitor → IsNextEpoch monitor (Some epoch) → spelled ≡ monitor.name
        → exchanged stream (Query (Lookup spelled epoch)) frame later → GivesBody (Query (Lookup spelled epoch)) frame said None said'
        → StepsOnce hash accepted exchanged (scene asker said stream) place false (scene asker said' later)
    steps_none said' at next named exchange gives =
        let given = subst (λ (n : List ℕ). GivesBody (Query (Lookup n epoch)) frame said None said') named gives in
        inr (inr (record {
          monitor = monitor;
          at = at;
          epoch = epoch;
          next = next;
          frame = frame;
          exchange = subst (λ (n : List ℕ). exchanged stream (Query (Lookup n epoch)) frame later) named exchange;
          told = given.0;
          watched = monitor;
          shows = inl (given.1, refl, refl);
          shown = silent;
          notes = inl (given.1, refl, refl);
          found = silent;
          client = inl (given.1, refl, refl);
          tells = told_onto said said' given.0 given.2 ∙ ap (λ (r : Report). told_after (report_of said) r) (sym (told_silent given.0) ∙ ap (told_after given.0) (sym (told_silent silent)));
          monitors = set_to_itself asker.monitors.items place monitor at;
        }))

    -- the frame was one, and the monitor watched by it, or refused it
    pub steps_some : (empty now said' said'' : Said) (body : List ℕ) (went : Bool) (monitors' : List Monitor) (last : Asker H V S) (shown found : Report) → TestsShown hash accepted asker.client spelled epoch body found last.client → last.monitors.items ≡ monitors'
        → NotesReply hash accepted asker.client.chain spelled body asker.finals shown last.finals → ((told : Report) → Tells empty told now → report_of said'' ≡ told_after (report_of said') (told_after told (told_after shown found))) → slice_get asker.monitors.items place ≡ Some monitor
        → IsNextEpoch monitor (Some epoch) → spelled ≡ monitor.name → exchanged stream (Query (Lookup spelled epoch)) frame later
        → GivesBody (Query (Lookup spelled epoch)) frame said (Some body) said' → WatchesAt hash accepted asker.monitors.items place epoch body empty went now monitors'
        → StepsOnce hash accepted exchanged (scene asker said stream) place went (scene last said'' later)
    steps_some empty now said' said'' body went monitors' last shown found tests watchers noted joined at next named exchange gives (inl (none, not, still, same)) = absurd (none-some monitor (slice_get asker.monitors.items place) none at)
    steps_some empty now said' said'' body went monitors' last shown found tests watchers noted joined at next named exchange gives (inr (seen, watched, there, (told, watches, tells), set)) =
        let given = subst (λ (n : List ℕ). GivesBody (Query (Lookup n epoch)) frame said (Some body) said') named gives in
        let same : seen ≡ monitor = same-some seen monitor (slice_get asker.monitors.items place) there at in
        let by_this = subst (λ (one : Monitor). WatchesBy hash accepted one epoch body went told watched) same watches in
        inr (inr (record {
          monitor = monitor;
          at = at;
          epoch = epoch;
          next = next;
          frame = frame;
          exchange = subst (λ (n : List ℕ). exchanged stream (Query (Lookup n epoch)) frame later) named exchange;
          told = told;
          watched = watched;
          shows = inr (given.0, subst (λ (b : List ℕ). WatchesBy hash accepted monitor epoch b went told watched) given.1 by_this);
          shown = shown;
          notes = inr (
            given.0,
            subst (λ (n : List ℕ). NotesReply hash accepted asker.client.chain n frame.body asker.finals shown last.finals) named
                (subst (λ (b : List ℕ). NotesReply hash accepted asker.client.chain spelled b asker.finals shown last.finals) given.1 noted),
          );
          found = found;
          client = inr (
            given.0,
            subst (λ (n : List ℕ). TestsShown hash accepted asker.client n epoch frame.body found last.client) named
                (subst (λ (b : List ℕ). TestsShown hash accepted asker.client spelled epoch b found last.client) given.1 tests),
          );
          tells = joined told tells ∙ ap (λ (s : Said). told_after (report_of s) (told_after told (told_after shown found))) given.2;
          monitors = watchers ∙ set;
        }))

module _ {T : Type 0} (hash : List ℕ → List ℕ) (accepted : List ℕ → List ℕ → List ℕ → Type 0) (exchanged : T → RequestContent → Frame → T → Type 0) where
  -- the monitor at a place stepped, and then those behind it
  pub all_step_more : (place next end count : ℕ) (before middle after : Scene T) → place < end → next ≡ suc place → StepsThrough hash accepted exchanged count before place middle
      → AllStep hash accepted exchanged (end - next) middle next after → AllStep hash accepted exchanged (end - place) before place after
  all_step_more place next end count before middle after below is through rest =
      let left : suc (end - suc place) ≡ end - place = omega (arith, below) in
      let behind = subst (λ (n : ℕ). AllStep hash accepted exchanged (end - n) middle n after) is rest in
      subst (λ (n : ℕ). AllStep hash accepted exchanged n before place after) left (count, middle, through, behind)

  -- all monitors stepped
  pub all_stepped : (place end : ℕ) (before middle : Scene T) → end ≡ length before.monitors → end ≤ place
      → ((x : Scene T) → AllStep hash accepted exchanged (end - place) middle place x → AllStep hash accepted exchanged end before 0 x)
      → AllStep hash accepted exchanged (length before.monitors) before 0 middle
  all_stepped place end before middle is past all =
      let none : 0 ≡ end - place = omega (arith, past) in
      subst (λ (n : ℕ). AllStep hash accepted exchanged n before 0 middle) is (all middle (subst (λ (n : ℕ). AllStep hash accepted exchanged n middle place middle) none refl))

  -- and then the promises were tested
  pub goes_on : {A E : Type 0} (result : Result A E) (marks marks' : Vec Mark Global) (before middle after : Scene T) → marks ≡ marks' → AllStep hash accepted exchanged (length before.monitors) before 0 middle
      → OnOk result (TestsAll hash accepted exchanged marks.items middle after) → OnOk result (GoesOn hash accepted exchanged marks'.items before after)
  goes_on (Ok done) marks marks' before middle after same all tests = (middle, all, subst (λ (m : Vec Mark Global). TestsAll hash accepted exchanged m.items middle after) same tests)
  goes_on (Err fault) marks marks' before middle after same all tests = tt

  -- the monitor at a place stepped, and of those behind it some
  pub some_step_more : (place next end count : ℕ) (before middle after : Scene T) → place < end → next ≡ suc place → StepsThrough hash accepted exchanged count before place middle
      → SomeStep hash accepted exchanged (end - next) middle next after → SomeStep hash accepted exchanged (end - place) before place after
  some_step_more place next end count before middle after below is through rest =
      let left : suc (end - suc place) ≡ end - place = omega (arith, below) in
      let behind = subst (λ (n : ℕ). SomeStep hash accepted exchanged (end - n) middle n after) is rest in
      subst (λ (n : ℕ). SomeStep hash accepted exchanged n before place after) left (inr (count, middle, through, behind))

  -- the monitor at a place took some steps
  pub some_step_here : (place end : ℕ) (before after : Scene T) → place < end → StepsSome hash accepted exchanged before place after
      → SomeStep hash accepted exchanged (end - place) before place after
  some_step_here place end before after below some =
      let left : suc (end - suc place) ≡ end - place = omega (arith, below) in
      subst (λ (n : ℕ). SomeStep hash accepted exchanged n before place after) left (inl some)

  -- a fault came as the monitors stepped
  pub halts_stepping : {H V S : Type 0} (marks : List Mark) (fault : AskFault) (before : Scene T) (asker : Asker H V S) (said : Said)
      → HaltsAfter (SomeStep hash accepted exchanged (length before.monitors) before 0) fault asker said → HaltsAfter (GoesSome hash accepted exchanged marks before) fault asker said
  halts_stepping marks fault before asker said (reached, some, halts) = (reached, inl some, halts)

  -- all monitors stepped, and then a fault came as the promises were tested
  pub halts_testing : {A H V S : Type 0} (result : Result A AskFault) (asker : Asker H V S) (said : Said) (marks marks' : Vec Mark Global) (before middle : Scene T) → marks ≡ marks'
      → AllStep hash accepted exchanged (length before.monitors) before 0 middle → IfErr result (λ fault. HaltsAfter (TestsSome hash accepted exchanged marks.items middle) fault asker said)
      → IfErr result (λ fault. HaltsAfter (GoesSome hash accepted exchanged marks'.items before) fault asker said)
  halts_testing (Ok done) asker said marks marks' before middle same all halts = tt
  halts_testing (Err fault) asker said marks marks' before middle same all (reached, some, halts) =
      (reached, inr (middle, all, subst (λ (m : Vec Mark Global). TestsSome hash accepted exchanged m.items middle reached) same some), halts)
