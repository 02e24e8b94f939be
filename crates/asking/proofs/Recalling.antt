-- Alarms of earlier runs that are told again before a name is watched.
use Rattle.std.proofs.Common.{◌≡◌, ◌≢◌, ◌∙◌, ℕ, zero, suc, ap, arith, List, Option, Result, Ok, Err, inl, inr, refl, subst}
use Rattle.std.specs.Prelude.{IfErr, OnOk}
use Rattle.memory.specs.Memories.{Memory}
use Rattle.memory.specs.declared.mark.Mark.{Mark}
use Rattle.rootchain.specs.declared.signed_promise.SignedPromise.{SignedPromise}
use Rattle.wire.specs.Frames.{Frame}
use Rattle.wire.specs.Requests.{RequestContent}
use Rattle.asking.specs.declared.ask_fault.AskFault.{AskFault}
use Rattle.asking.specs.declared.ask_fault.AskFault.TheVariants.{OutOfMemory}
use Rattle.asking.specs.declared.asker.Asker.{Asker}
use Rattle.asking.specs.declared.said.Said.{Said}
use Rattle.asking.specs.Joining.{BeginsSome, BeginsWatch, WatchesNew, WatchesSome}
use Rattle.std.proofs.lemmas.Bool.Decides.{nat_tests}
use Rattle.encoding.specs.declared.bound_key.BoundKey.{BoundKey}
use Rattle.asking.specs.Recalled.{evidence_again, status_of, TellsAlarms}
use Rattle.asking.specs.Reports.{Report, Tells, report_of, told_after}
use Rattle.asking.specs.Scenes.{HaltsAfter, Scene, scene}
use Rattle.asking.proofs.Going.{told_onto}
use Rattle.asking.proofs.Halted.{halts_untold}
use Rattle.asking.proofs.Joined.{scene_of}

-- these lines were said, with this status
pub said_is : (said : Said) (lines : List ℕ) (status : ℕ) → said.text.items ≡ lines → said.status ≡ status → ◌≡◌ {A = Report} (report_of said) (record { lines = lines; status = status })
said_is said lines status text same = ap (λ (xs : List ℕ). let t : Report = record { lines = xs; status = said.status } in t) text
    ∙ ap (λ (n : ℕ). let t : Report = record { lines = lines; status = n } in t) same

-- alarms were said again, with words, and then told
pub alarms_joined : {A E : Type 0} (result : Result A E) (name : List ℕ) (known : Memory) (now worded said said' : Said) → TellsAlarms name known (report_of now) → report_of worded ≡ report_of now
    → OnOk result (Tells said (report_of worded) said') → OnOk result ((again : Report) × TellsAlarms name known again × Tells said again said')
alarms_joined (Ok done) name known now worded said said' alarms same tells = (report_of now, alarms, subst (λ (r : Report). Tells said r said') same tells)
alarms_joined (Err why) name known now worded said said' alarms same tells = tt

-- and so was evidence
pub evidence_joined : {A E : Type 0} (result : Result A E) (known : Memory) (worded said said' : Said) → report_of worded ≡ evidence_again known
    → OnOk result (Tells said (report_of worded) said') → OnOk result (report_of said' ≡ told_after (report_of said) (evidence_again known))
evidence_joined (Ok done) known worded said said' same tells = told_onto said said' (report_of worded) tells ∙ ap (λ (r : Report). told_after (report_of said) r) same
evidence_joined (Err why) known worded said said' same tells = tt

-- there is none, or some
pub status_none : (status count : ℕ) → count ≡ 0 → status_of status count ≡ 0
status_none status count none = ap (λ (n : ℕ). status_of status n) none

pub status_some : (status count : ℕ) → count ≢ 0 → status_of status count ≡ status
status_some status zero some = absurd (some refl)
status_some status (suc n) some = grind (arith, nat_tests)

module _ {H V S T : Type 0} (hash : List ℕ → List ℕ) (accepted verified : List ℕ → List ℕ → List ℕ → Type 0) (exchanged : T → RequestContent → Frame → T → Type 0) where
  module _ (known : Memory) (marks : List Mark) (key : List ℕ) (promised : List SignedPromise) (name : List ℕ) (given : Option BoundKey) where
    -- the scene in which they are told again
    recalled-is : (asker : Asker H V S) (said middle : Said) (stream : T) (again : Report) → Tells said again middle
        → ◌≡◌ {A = Scene T} (scene asker middle stream) (record (scene asker said stream) { told = told_after (report_of said) again })
    recalled-is asker said middle stream again tells =
        scene_of asker.client asker.client asker.monitors.items asker.monitors.items asker.finals asker.finals (report_of middle) (told_after (report_of said) again) stream refl refl refl (told_onto said middle again tells)

    pub begins_recalled : {A E : Type 0} (result : Result A E) (asker last : Asker H V S) (said middle said' : Said) (stream stream' : T) → (again : Report) × TellsAlarms name known again × Tells said again middle
        → OnOk result (WatchesNew hash accepted verified exchanged marks key promised name given (scene asker middle stream) (scene last said' stream'))
        → OnOk result (BeginsWatch hash accepted verified exchanged known marks key promised name given (scene asker said stream) (scene last said' stream'))
    begins_recalled (Ok done) asker last said middle said' stream stream' (again, alarms, tells) watches =
        (again, alarms, subst (λ (s : Scene T). WatchesNew hash accepted verified exchanged marks key promised name given s (scene last said' stream')) (recalled-is asker said middle stream again tells) watches)
    begins_recalled (Err why) asker last said middle said' stream stream' tells watches = tt

    pub halts_recalled : {A : Type 0} (result : Result A AskFault) (asker last : Asker H V S) (said middle said' : Said) (stream : T) → (again : Report) × TellsAlarms name known again × Tells said again middle
        → IfErr result (λ fault. HaltsAfter (WatchesSome hash accepted verified exchanged marks key promised name given (scene asker middle stream)) fault last said')
        → IfErr result (λ fault. HaltsAfter (BeginsSome hash accepted verified exchanged known marks key promised name given (scene asker said stream)) fault last said')
    halts_recalled (Ok done) asker last said middle said' stream told halts = tt
    halts_recalled (Err fault) asker last said middle said' stream (again, alarms, tells) (reached, watches, halts) =
        let here = subst (λ (s : Scene T). WatchesSome hash accepted verified exchanged marks key promised name given s reached) (recalled-is asker said middle stream again tells) watches in
        (reached, inr (again, alarms, here), halts)

    pub halts_unrecalled : (asker : Asker H V S) (said said' : Said) (stream : T) → report_of said' ≡ report_of said
        → HaltsAfter (BeginsSome hash accepted verified exchanged known marks key promised name given (scene asker said stream)) OutOfMemory asker said'
    halts_unrecalled asker said said' stream same =
        halts_untold asker asker said said' stream (BeginsSome hash accepted verified exchanged known marks key promised name given (scene asker said stream)) (inl refl) same
