-- Steps of monitors, as they are told.
use Rattle.std.specs.Prelude.{◌≡◌, ◌≢◌, ◌⊎◌, ℕ, zero, suc, Bool, true, false, List, [], ◌∷◌, ◌++◌, length, Option, Some, None, Result, Ok, Err, codes, slice_get, slice_set}
use Rattle.commands.specs.Operations.{Lookup}
use Rattle.client.specs.Clients.{Client as ChainClient}
use Rattle.client.specs.Dues.{Dues, IsDueEpoch}
use Rattle.client.specs.declared.client_refusal.Refusal.{Refusal}
use Rattle.client.specs.declared.client_refusal.Refusal.TheVariants.{Memory}
use Rattle.client.specs.declared.due.Due.{Due}
use Rattle.monitor.specs.Monitors.{Monitor}
use Rattle.monitor.specs.Stepping.{IsNextEpoch, Steps}
use Rattle.monitor.specs.declared.monitor_refusal.Refusal.TheVariants.{Client}
use Rattle.monitor.specs.declared.step.Step.{Step}
use Rattle.monitor.specs.declared.step.Step.TheVariants.{Kept, Alarm}
use Rattle.play.specs.Telling.{step_text}
use Rattle.proofs.specs.Comparisons.{IsAcceptedReply}
use Rattle.proofs.specs.Replies.{Reply}
use Rattle.wire.specs.Frames.{Frame}
use Rattle.wire.specs.Requests.{RequestContent, Query}
use Rattle.memory.specs.declared.mark.Mark.{Mark}
use Rattle.asking.specs.declared.said.Said.{Said}
use Rattle.asking.specs.declared.said.TheConstants.{CAUGHT}
use Rattle.asking.specs.Noting.{NotesAnswer}
use Rattle.asking.specs.Refused.{client_refuses}
use Rattle.asking.specs.Scenes.{Scene, FrameAnswers, IsUnanswered}
use Rattle.asking.specs.Reports.{Report, Tells, silent, told_after}
use Rattle.asking.specs.Testing.{shown_told}
use Rattle.asking.specs.Visiting.{TestsAll, TestsSome}

-- what a step tells
abbrev pub step_told : List ℕ → ℕ → Step → Report
step_told name epoch Kept = record { lines = step_text name epoch Kept ++ 10 ∷ []; status = 0 }
step_told name epoch (Alarm at found) = record { lines = step_text name epoch (Alarm at found) ++ 10 ∷ []; status = CAUGHT }

module _ (hash : List ℕ → List ℕ) (accepted : List ℕ → List ℕ → List ℕ → Type 0) where
  -- a monitor watched an epoch by a reply, or its client refused the proof, and not for want of memory
  abbrev pub WatchesBy : Monitor → ℕ → List ℕ → Bool → Report → Monitor → Type 0
  WatchesBy before epoch reply true told after = (step : Step) × Steps hash accepted before reply (Ok step) after × (told ≡ step_told before.name epoch step)
  WatchesBy before epoch reply false told after =
      (why : Refusal) × (why ≢ Memory) × Steps hash accepted before reply (Err (Client why)) after × (told ≡ client_refuses (codes "client refuses proof") why)

  abbrev pub WatchesEpoch : Monitor → ℕ → List ℕ → Said → Bool → Said → Monitor → Type 0
  WatchesEpoch before epoch reply said went now after = (told : Report) × WatchesBy before epoch reply went told after × Tells said told now

  -- the monitor at a place watches an epoch by a reply, if there is one
  abbrev pub WatchesAt : List Monitor → ℕ → ℕ → List ℕ → Said → Bool → Said → List Monitor → Type 0
  WatchesAt before place epoch reply said went now after =
      ((slice_get before place ≡ None) × (went ≡ false) × (now ≡ said) × (after ≡ before))
      ⊎ ((monitor : Monitor) × (watched : Monitor) × (slice_get before place ≡ Some monitor) × WatchesEpoch monitor epoch reply said went now watched × (after ≡ slice_set before place watched))

  -- what a frame that came for a look-up shows a monitor
  abbrev pub ShowsEpoch : Monitor → ℕ → RequestContent → Frame → Bool → Report → Monitor → Type 0
  ShowsEpoch before epoch asked frame went told after =
      (IsUnanswered asked frame told × (went ≡ false) × (after ≡ before)) ⊎ (FrameAnswers asked frame × WatchesBy before epoch frame.body went told after)

  -- bytes are a reply of this epoch that is accepted for the name under the body that it has
  abbrev pub IsAcceptedAt : List ℕ → ℕ → List ℕ → Type 0
  IsAcceptedAt name epoch bytes = (reply : Reply) × IsAcceptedReply hash accepted reply.body name bytes reply × (reply.body.epoch ≡ epoch)

  -- a promise for the name that is due in this epoch is tested by the reply: it is dropped if it was kept, and evidence that
  -- it was not is told
  abbrev pub TestsShown : ChainClient → List ℕ → ℕ → List ℕ → Report → ChainClient → Type 0
  TestsShown before name epoch reply found after =
      (due : Option ℕ) × IsDueEpoch before name due
      × (((due ≢ Some epoch) × (found ≡ silent) × (after ≡ before))
      ⊎ ((due ≡ Some epoch) × ((shown : Result Due Refusal) × Dues hash accepted before name reply shown after × (found ≡ shown_told shown))))

  -- what a frame that came for a look-up shows of a promise
  abbrev pub ShowsPromise : ChainClient → List ℕ → ℕ → RequestContent → Frame → Report → Report → ChainClient → Type 0
  ShowsPromise before name epoch asked frame told found after =
      (IsUnanswered asked frame told × (found ≡ silent) × (after ≡ before)) ⊎ (FrameAnswers asked frame × TestsShown before name epoch frame.body found after)

  module _ {T : Type 0} (exchanged : T → RequestContent → Frame → T → Type 0) where
    -- the monitor at a place looks its name up in its next epoch, and this is told of what comes back
    pub record AsksEpoch (before : Scene T) (place : ℕ) (went : Bool) (after : Scene T) : Type 0 where
      pub monitor : Monitor
      pub at : slice_get before.monitors place ≡ Some monitor
      pub epoch : ℕ
      pub next : IsNextEpoch monitor (Some epoch)
      pub frame : Frame
      pub exchange : exchanged before.stream (Query (Lookup monitor.name epoch)) frame after.stream
      pub told : Report
      pub watched : Monitor
      pub shows : ShowsEpoch monitor epoch (Query (Lookup monitor.name epoch)) frame went told watched
      pub shown : Report
      pub notes : NotesAnswer hash accepted before.client.chain monitor.name (Query (Lookup monitor.name epoch)) frame told before.finals shown after.finals
      pub found : Report
      pub client : ShowsPromise before.client monitor.name epoch (Query (Lookup monitor.name epoch)) frame told found after.client
      pub tells : after.told ≡ told_after before.told (told_after told (told_after shown found))
      pub monitors : after.monitors ≡ slice_set before.monitors place watched

    -- whether the monitor at a place watched an epoch: it asks nothing where none is new
    abbrev pub StepsOnce : Scene T → ℕ → Bool → Scene T → Type 0
    StepsOnce before place went after =
        ((slice_get before.monitors place ≡ None) × (went ≡ false) × (after ≡ before))
        ⊎ ((((monitor : Monitor) × (slice_get before.monitors place ≡ Some monitor) × IsNextEpoch monitor None) × (went ≡ false) × (after ≡ before))
        ⊎ AsksEpoch before place went after)

    -- so many steps, and then one that watches no epoch
    abbrev pub StepsThrough : ℕ → Scene T → ℕ → Scene T → Type 0
    StepsThrough zero before place after = StepsOnce before place false after
    StepsThrough (suc count) before place after = (middle : Scene T) × StepsOnce before place true middle × StepsThrough count middle place after

    -- so many monitors from a place on, one after another
    abbrev pub AllStep : ℕ → Scene T → ℕ → Scene T → Type 0
    AllStep zero before place after = after ≡ before
    AllStep (suc more) before place after = (count : ℕ) × (middle : Scene T) × StepsThrough count before place middle × AllStep more middle (suc place) after

    -- each monitor watches what is new, and then each promise is tested that is due
    abbrev pub GoesOn : List Mark → Scene T → Scene T → Type 0
    GoesOn marks before after = (middle : Scene T) × AllStep (length before.monitors) before 0 middle × TestsAll hash accepted exchanged marks middle after

    -- so many steps, each of which watches an epoch, and more may come; some steps
    abbrev pub StepsOn : ℕ → Scene T → ℕ → Scene T → Type 0
    StepsOn zero before place after = after ≡ before
    StepsOn (suc count) before place after = (middle : Scene T) × StepsOnce before place true middle × StepsOn count middle place after

    abbrev pub StepsSome : Scene T → ℕ → Scene T → Type 0
    StepsSome before place after = (count : ℕ) × StepsOn count before place after

    -- some steps of so many monitors from a place on, one after another
    abbrev pub SomeStep : ℕ → Scene T → ℕ → Scene T → Type 0
    SomeStep zero before place after = after ≡ before
    SomeStep (suc more) before place after = StepsSome before place after ⊎ ((count : ℕ) × (middle : Scene T) × StepsThrough count before place middle × SomeStep more middle (suc place) after)

    -- some steps of the monitors; or all of them, and then some promises are tested
    abbrev pub GoesSome : List Mark → Scene T → Scene T → Type 0
    GoesSome marks before after = SomeStep (length before.monitors) before 0 after
        ⊎ ((middle : Scene T) × AllStep (length before.monitors) before 0 middle × TestsSome hash accepted exchanged marks middle after)
