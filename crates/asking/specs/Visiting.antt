-- How the promises that are kept are tested, one place of their list after another.
use Rattle.std.specs.Prelude.{◌≡◌, ◌⊎◌, ℕ, zero, suc, Bool, true, false, if◌then◌else◌, List, Option, Some, None, Result, Contains, slice_get}
use Rattle.commands.specs.Operations.{Lookup}
use Rattle.rootchain.specs.declared.signed_promise.SignedPromise.{SignedPromise}
use Rattle.client.specs.Clients.{Client}
use Rattle.client.specs.Dues.{Dues, IsDueEpoch}
use Rattle.client.specs.declared.due.Due.{Due}
use Rattle.client.specs.declared.client_refusal.Refusal.{Refusal}
use Rattle.monitor.specs.Monitors.{Monitor}
use Rattle.wire.specs.Frames.{Frame}
use Rattle.wire.specs.Requests.{RequestContent, Query}
use Rattle.memory.specs.declared.mark.Mark.{Mark}
use Rattle.asking.specs.Scenes.{Scene, FrameAnswers, IsUnanswered}
use Rattle.asking.specs.Noting.{NotesAnswer}
use Rattle.asking.specs.Testing.{due_told, was_kept}
use Rattle.asking.specs.Reports.{Report, told_after}

-- the name has a mark of an earlier run; a monitor in this one; the first, and not the second
abbrev pub IsMarked : List Mark → List ℕ → Type 0
IsMarked marks name = (mark : Mark) × Contains marks mark × (mark.name ≡ name)

abbrev pub HasMonitor : List Monitor → List ℕ → Type 0
HasMonitor monitors name = (monitor : Monitor) × Contains monitors monitor × (monitor.name ≡ name)

abbrev pub AwaitsMonitor : List Mark → List Monitor → List ℕ → Type 0
AwaitsMonitor marks monitors name = IsMarked marks name × ¬ HasMonitor monitors name

module _ (hash : List ℕ → List ℕ) (accepted : List ℕ → List ℕ → List ℕ → Type 0) where
  -- what a frame that came for a look-up shows of the promise for the name: no answer, or what comes of the test
  abbrev pub ShowsDue : Client → List ℕ → RequestContent → Frame → Bool → Report → Client → Type 0
  ShowsDue before name asked frame kept told after =
      (IsUnanswered asked frame told × (kept ≡ false) × (after ≡ before))
      ⊎ (FrameAnswers asked frame × ((due : Result Due Refusal) × Dues hash accepted before name frame.body due after × (kept ≡ was_kept due) × (told ≡ due_told due)))

  module _ {T : Type 0} (exchanged : T → RequestContent → Frame → T → Type 0) where
    -- the name is looked up in the epoch in which its promise is due, and this is told of what comes back
    pub record AsksDue (before : Scene T) (name : List ℕ) (kept : Bool) (after : Scene T) : Type 0 where
      pub epoch : ℕ
      pub due : IsDueEpoch before.client name (Some epoch)
      pub frame : Frame
      pub exchange : exchanged before.stream (Query (Lookup name epoch)) frame after.stream
      pub told : Report
      pub shows : ShowsDue before.client name (Query (Lookup name epoch)) frame kept told after.client
      pub shown : Report
      pub notes : NotesAnswer hash accepted after.client.chain name (Query (Lookup name epoch)) frame told before.finals shown after.finals
      pub tells : after.told ≡ told_after before.told (told_after told shown)
      pub monitors : after.monitors ≡ before.monitors

    -- whether the promise for a name is found kept: nothing is asked where none is due
    abbrev pub TestsName : Scene T → List ℕ → Bool → Scene T → Type 0
    TestsName before name kept after =
        (IsDueEpoch before.client name None × (kept ≡ false) × (after ≡ before)) ⊎ AsksDue before name kept after

    -- what comes of the promise at a place, and the place that is next: one that is found kept is no longer there
    abbrev pub VisitsPromise : List Mark → Scene T → List ℕ → ℕ → ℕ → Scene T → Type 0
    VisitsPromise marks before name place next after =
        (AwaitsMonitor marks before.monitors name × (next ≡ suc place) × (after ≡ before))
        ⊎ ((¬ AwaitsMonitor marks before.monitors name) × ((kept : Bool) × TestsName before name kept after × (next ≡ (if kept then place else suc place))))

    abbrev pub Visits : List Mark → Scene T → ℕ → Option ℕ → Scene T → Type 0
    Visits marks before place None after = (slice_get before.client.promises place ≡ None) × (after ≡ before)
    Visits marks before place (Some next) after =
        (signed : SignedPromise) × (slice_get before.client.promises place ≡ Some signed) × VisitsPromise marks before signed.promise.name place next after

    -- so many visits from a place on, up to the end of the list
    abbrev pub TestsFrom : List Mark → ℕ → Scene T → ℕ → Scene T → Type 0
    TestsFrom marks zero before place after = Visits marks before place None after
    TestsFrom marks (suc count) before place after = (next : ℕ) × (middle : Scene T) × Visits marks before place (Some next) middle × TestsFrom marks count middle next after

    -- at each place of the list, the first promise of its name is tested, if it is due and does not wait
    abbrev pub TestsAll : List Mark → Scene T → Scene T → Type 0
    TestsAll marks before after = (count : ℕ) × TestsFrom marks count before 0 after

    -- so many visits from a place on, and more may come; some visits from the first place on
    abbrev pub VisitsOn : List Mark → ℕ → Scene T → ℕ → Scene T → Type 0
    VisitsOn marks zero before place after = after ≡ before
    VisitsOn marks (suc count) before place after = (next : ℕ) × (middle : Scene T) × Visits marks before place (Some next) middle × VisitsOn marks count middle next after

    abbrev pub TestsSome : List Mark → Scene T → Scene T → Type 0
    TestsSome marks before after = (count : ℕ) × VisitsOn marks count before 0 after

    -- so many promises for a name are found kept, one after another, and then none is
    abbrev pub FindsKept : ℕ → Scene T → List ℕ → Scene T → Type 0
    FindsKept zero before name after = TestsName before name false after
    FindsKept (suc count) before name after = (middle : Scene T) × TestsName before name true middle × FindsKept count middle name after

    -- the promises for a name that are due are tested, if they do not wait, up to one that is not found kept
    abbrev pub TestsNamed : List Mark → List ℕ → Scene T → Scene T → Type 0
    TestsNamed marks name before after = (AwaitsMonitor marks before.monitors name × (after ≡ before))
        ⊎ ((¬ AwaitsMonitor marks before.monitors name) × ((count : ℕ) × FindsKept count before name after))

    -- so many are found kept, and more may come
    abbrev pub KeptOn : ℕ → Scene T → List ℕ → Scene T → Type 0
    KeptOn zero before name after = after ≡ before
    KeptOn (suc count) before name after = (middle : Scene T) × TestsName before name true middle × KeptOn count middle name after

    -- some are
    abbrev pub FindsSomeKept : List ℕ → Scene T → Scene T → Type 0
    FindsSomeKept name before after = (count : ℕ) × KeptOn count before name after

    -- the same, for a name whose promises do not wait
    abbrev pub TestsSomeNamed : List Mark → List ℕ → Scene T → Scene T → Type 0
    TestsSomeNamed marks name before after = (¬ AwaitsMonitor marks before.monitors name) × FindsSomeKept name before after
