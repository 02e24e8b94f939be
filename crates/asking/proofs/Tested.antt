-- Promises that were tested.
use Rattle.std.proofs.Common.{◌≡◌, ◌∙◌, ℕ, suc, Bool, false, if◌then◌else◌, List, Option, Some, None, Result, Ok, Err, Global, Vec, ap, refl, subst, sym, inl, inr}
use Rattle.std.specs.Prelude.{slice_get, OnOk}
use Rattle.commands.specs.Operations.{Lookup}
use Rattle.rootchain.specs.declared.body.Body.{Body}
use Rattle.rootchain.specs.declared.signed_promise.SignedPromise.{SignedPromise}
use Rattle.proofs.proofs.Passing.{one_reply}
use Rattle.proofs.specs.Replies.{Reply}
use Rattle.client.specs.Clients.{Client}
use Rattle.client.specs.Dues.{Dues, IsDueEpoch}
use Rattle.client.specs.declared.client_refusal.Refusal.{Refusal}
use Rattle.client.specs.declared.due.Due.{Due}
use Rattle.client.specs.declared.due.Due.TheVariants.{Kept}
use Rattle.monitor.specs.Monitors.{Monitor}
use Rattle.wire.specs.Frames.{Frame}
use Rattle.wire.specs.Requests.{RequestContent, Query}
use Rattle.asking.specs.declared.asker.Asker.{Asker}
use Rattle.memory.specs.declared.mark.Mark.{Mark}
use Rattle.asking.specs.declared.said.Said.{Said}
use Rattle.asking.specs.Scenes.{GivesBody, Scene, scene}
use Rattle.asking.specs.Testing.{due_told, shown_told, TellsDue}
use Rattle.asking.specs.FinalBindings.{NotesReply}
use Rattle.asking.specs.Reports.{Report, Tells, report_of, silent, told_after}
use Rattle.asking.specs.Visiting.{AwaitsMonitor, TestsName, Visits}
use Rattle.asking.specs.Watching.{IsAcceptedAt, TestsShown}
use Rattle.asking.proofs.Going.{told_onto}
use Rattle.asking.proofs.Handed.{told_silent}

module _ {H V S T : Type 0} (hash : List ℕ → List ℕ) (accepted : List ℕ → List ℕ → List ℕ → Type 0) (exchanged : T → RequestContent → Frame → T → Type 0) where
  module _ (asker : Asker H V S) (said : Said) (stream : T) (name : List ℕ) (epoch : ℕ) (frame : Frame) (later : T) where
    -- the frame was no answer
    pub tests_none : (said' : Said) → IsDueEpoch asker.client name (Some epoch) → exchanged stream (Query (Lookup name epoch)) frame later
        → GivesBody (Query (Lookup name epoch)) frame said None said' → TestsName hash accepted exchanged (scene asker said stream) name false (scene asker said' later)
    tests_none said' due exchange given =
        inr (record {
          epoch = epoch;
          due = due;
          frame = frame;
          exchange = exchange;
          told = given.0;
          shows = inl (given.1, refl, refl);
          shown = silent;
          notes = inl (given.1, refl, refl);
          tells = told_onto said said' given.0 given.2 ∙ ap (λ (r : Report). told_after (report_of said) r) (sym (told_silent given.0));
          monitors = refl;
        })

    -- the frame was one, and this is what comes of the test
    pub tests_some : (empty now said' said'' : Said) (body : List ℕ) (kept : Bool) (client' : Client) (last : Asker H V S) (shown : Report) → last.client ≡ client' → last.monitors ≡ asker.monitors
        → NotesReply hash accepted client'.chain name body asker.finals shown last.finals → ((told : Report) → Tells empty told now → report_of said'' ≡ told_after (report_of said') (told_after told shown)) → IsDueEpoch asker.client name (Some epoch)
        → exchanged stream (Query (Lookup name epoch)) frame later → GivesBody (Query (Lookup name epoch)) frame said (Some body) said'
        → TellsDue hash accepted asker.client name body empty kept now client'
        → TestsName hash accepted exchanged (scene asker said stream) name kept (scene last said'' later)
    tests_some empty now said' said'' body kept client' last shown same watchers noted joined due exchange given (found, dues, was, tells) =
        inr (record {
          epoch = epoch;
          due = due;
          frame = frame;
          exchange = exchange;
          told = due_told found;
          shows = inr (given.0, (found, subst (λ (c : Client). Dues hash accepted asker.client name frame.body found c) (sym same) (subst (λ (b : List ℕ). Dues hash accepted asker.client name b found client') given.1 dues), was, refl));
          shown = shown;
          notes = inr (
            given.0,
            subst (λ (c : Client). NotesReply hash accepted c.chain name frame.body asker.finals shown last.finals) (sym same)
                (subst (λ (b : List ℕ). NotesReply hash accepted client'.chain name b asker.finals shown last.finals) given.1 noted),
          );
          tells = joined (due_told found) tells ∙ ap (λ (s : Said). told_after (report_of s) (told_after (due_told found) shown)) given.2;
          monitors = ap (λ (all : Vec Monitor Global). all.items) watchers;
        })

-- what a monitor was shown was accepted, and shows that the promise was kept
pub shown_kept : (hash : List ℕ → List ℕ) (accepted : List ℕ → List ℕ → List ℕ → Type 0) (before : Client) (name : List ℕ) (epoch : ℕ) (reply : List ℕ) (after : Client)
    → IsAcceptedAt hash accepted name epoch reply → Dues hash accepted before name reply (Ok Kept) after → TestsShown hash accepted before name epoch reply silent after
shown_kept hash accepted before name epoch reply after (read, own, at) (place, (signed, tested, (root, its, next, is, shows)), drops) =
    let same : its ≡ read = one_reply reply its read is.0 own.0 in
    let epochs : root.body.epoch ≡ epoch = ap (λ (b : Body). b.epoch) (sym is.1) ∙ ap (λ (r : Reply). r.body.epoch) same ∙ at in
    (Some epoch, (place, signed, root, tested, next, epochs), inr (refl, (Ok Kept, (place, (signed, tested, (root, its, next, is, shows)), drops), refl)))

-- what a monitor was shown is evidence, which was told
pub shown_evidence : {A E : Type 0} (hash : List ℕ → List ℕ) (accepted : List ℕ → List ℕ → List ℕ → Type 0) (result : Result A E) (before : Client) (name : List ℕ) (epoch : ℕ) (reply : List ℕ) (due : Option ℕ) (shown : Result Due Refusal) (after : Client)
    (said said' : Said) → IsDueEpoch before name due → due ≡ Some epoch → Dues hash accepted before name reply shown after → OnOk result (Tells said (shown_told shown) said')
    → OnOk result ((found : Report) × TestsShown hash accepted before name epoch reply found after × Tells said found said')
shown_evidence hash accepted (Ok done) before name epoch reply due shown after said said' is there dues tells = (shown_told shown, (due, is, inr (there, (shown, dues, refl))), tells)
shown_evidence hash accepted (Err why) before name epoch reply due shown after said said' is there dues tells = tt

module _ {T : Type 0} (hash : List ℕ → List ℕ) (accepted : List ℕ → List ℕ → List ℕ → Type 0) (exchanged : T → RequestContent → Frame → T → Type 0) where
  module _ (marks : List Mark) (before after : Scene T) (place next : ℕ) (signed : SignedPromise) (name : List ℕ) where
    -- the promise waits for its monitor
    pub visits_waiting : slice_get before.client.promises place ≡ Some signed → name ≡ signed.promise.name → AwaitsMonitor marks before.monitors name → next ≡ suc place
        → Visits hash accepted exchanged marks before place (Some next) before
    visits_waiting at named waits is = (signed, at, inl (subst (λ (n : List ℕ). AwaitsMonitor marks before.monitors n) named waits, is, refl))

    -- it was tested
    pub visits_tested : (kept : Bool) → slice_get before.client.promises place ≡ Some signed → name ≡ signed.promise.name → ¬ AwaitsMonitor marks before.monitors name
        → TestsName hash accepted exchanged before name kept after → next ≡ (if kept then place else suc place) → Visits hash accepted exchanged marks before place (Some next) after
    visits_tested kept at named not tests is = (
      signed,
      at,
      inr (subst (λ (n : List ℕ). ¬ AwaitsMonitor marks before.monitors n) named not, (kept, subst (λ (n : List ℕ). TestsName hash accepted exchanged before n kept after) named tests, is)),
    )

  -- a visit with the marks and the outcome under other names
  pub visits_as : (marks marks' : Vec Mark Global) (before after : Scene T) (place : ℕ) (next next' : Option ℕ) → marks ≡ marks' → next ≡ next'
      → Visits hash accepted exchanged marks.items before place next after → Visits hash accepted exchanged marks'.items before place next' after
  visits_as marks marks' before after place next next' same is visits =
      subst (λ (all : Vec Mark Global). Visits hash accepted exchanged all.items before place next' after) same
      (subst (λ (n : Option ℕ). Visits hash accepted exchanged marks.items before place n after) is visits)
