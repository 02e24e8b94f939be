-- What each single step keeps, every relation between the scenes of a run keeps.
use Rattle.std.proofs.Common.{◌≡◌, ◌⊎◌, ℕ, zero, suc, true, false, Bool, List, [], ◌∷◌, ◌++◌, length, Option, Some, None, inl, inr, refl, subst, sym}
use Rattle.encoding.specs.declared.bound_key.BoundKey.{BoundKey}
use Rattle.rootchain.specs.declared.signed_promise.SignedPromise.{SignedPromise}
use Rattle.rootchain.specs.declared.signed_root.SignedRoot.{SignedRoot}
use Rattle.commands.specs.Operations.{Head}
use Rattle.wire.specs.Frames.{Frame}
use Rattle.wire.specs.Requests.{RequestContent, Query}
use Rattle.play.specs.Scripts.{ScriptLine, Pass, Ask, Watch, Piece, End}
use Rattle.memory.specs.Memories.{Memory}
use Rattle.memory.specs.declared.mark.Mark.{Mark}
use Rattle.monitor.specs.Monitors.{Monitor}
use Rattle.asking.specs.declared.ask_fault.AskFault.{AskFault}
use Rattle.asking.specs.Asking.{replied, AsksDirectory, AsksOn, AsksSome, FindsHead, FindsSome, GoesOnAbove, HearsHead, HearsOne, HearsOnly, HearsReply, HearsSome, Notes, StopsAsking}
use Rattle.asking.specs.Catching.{Advances, AdvancesBy, AdvancesSome, CatchesSome, CatchesUp, StopsBelow}
use Rattle.asking.specs.Checking.{HearsFrame}
use Rattle.asking.specs.Following.{StopsList, TakesList}
use Rattle.asking.specs.Joining.{own_for, BeginsAt, BeginsSome, BeginsSomeAt, BeginsWatch, IsJoined, IsUnwatched, WatchesNew, WatchesSome, watched_told}
use Rattle.asking.specs.Reports.{Report, told_after, unless_fine}
use Rattle.runs.specs.Ending.{DoesSomeNoting, LooksSome, PreparesSome}
use Rattle.runs.specs.Runs.{Background, Prepares}
use Rattle.asking.specs.Scenes.{Scene}
use Rattle.asking.specs.Visiting.{AsksDue, FindsKept, KeptOn, TestsAll, TestsFrom, TestsName, TestsNamed, TestsSome, TestsSomeNamed, Visits, VisitsOn}
use Rattle.asking.specs.Watching.{AllStep, AsksEpoch, GoesOn, GoesSome, SomeStep, StepsOn, StepsOnce, StepsSome, StepsThrough}

module _ {T : Type 0} (hash : List ℕ → List ℕ) (accepted verified : List ℕ → List ℕ → List ℕ → Type 0) (exchanged : T → RequestContent → Frame → T → Type 0) (marks : List Mark) where
  -- Each single step keeps it, where what is noted of the client's own changes is MayNote, a monitor joins as MayJoin says, and
  -- a frame may stop the taking of roots if MayStop is so.
  pub record EachKeeps (MayNote : List SignedPromise → Type 0) (MayJoin : List ℕ → List SignedPromise → List ℕ → Option BoundKey → Type 0) (MayStop : Type 0) (Keeps : Scene T → Scene T → Type 0) : Type 0 where
    pub none : (before : Scene T) → Keeps before before
    pub both : (before middle after : Scene T) → Keeps before middle → Keeps middle after → Keeps before after
    pub sends : (before : Scene T) (stream : T) → Keeps before (record before { stream = stream })
    pub tells : (before : Scene T) (told : Report) → Keeps before (record before { told = told_after before.told told })
    pub takes : (before after : Scene T) → TakesList hash verified exchanged before true after → Keeps before after
    pub stops : (before after : Scene T) → MayStop → StopsList hash verified exchanged before after → Keeps before after
    pub tests : (before : Scene T) (name : List ℕ) (kept : Bool) (after : Scene T) → AsksDue hash accepted exchanged before name kept after → Keeps before after
    pub steps : (before : Scene T) (place : ℕ) (went : Bool) (after : Scene T) → AsksEpoch hash accepted exchanged before place went after → Keeps before after
    pub joins : (before : Scene T) (key : List ℕ) (promised : List SignedPromise) (name : List ℕ) (given : Option BoundKey) (first : SignedRoot) (monitor : Monitor) → MayJoin key promised name given
        → IsUnwatched before.client.chain name marks (Some first) → IsJoined hash accepted verified marks key promised before.client.chain first name given monitor
        → Keeps before (record before { monitors = before.monitors ++ monitor ∷ [] })
    pub hears : (before after : Scene T) (held : ℕ) (asked : RequestContent) (frame : Frame) (heard told : Report) → HearsFrame hash accepted verified held before.client asked frame heard after.client
        → after.told ≡ told_after before.told told → after.monitors ≡ before.monitors → Keeps before after
    pub hands : (before after : Scene T) (held : ℕ) (asked : RequestContent) (frame : Frame) (noted noted' : List SignedPromise) → HearsOne hash accepted verified exchanged held asked frame before after
        → Notes asked before.client.promises after.client.promises noted noted' → MayNote noted' → Keeps before after

  module _ {MayNote : List SignedPromise → Type 0} {MayJoin : List ℕ → List SignedPromise → List ℕ → Option BoundKey → Type 0} {MayStop : Type 0} {Keeps : Scene T → Scene T → Type 0} (each : EachKeeps MayNote MayJoin MayStop Keeps) where
    same-keeps : (before after : Scene T) → after ≡ before → Keeps before after
    same-keeps before after same = subst (Keeps before) (sym same) (each.none before)

    -- ---- roots

    none-keeps : (before after : Scene T) → TakesList hash verified exchanged before false after → Keeps before after
    none-keeps before after (inl (head, is, last, same)) = same-keeps before after same
    none-keeps before after (inr (frame, stream, asks, none, same)) = subst (Keeps before) (sym same) (each.sends before stream)

    -- ---- promises

    name-keeps : (before : Scene T) (name : List ℕ) (kept : Bool) (after : Scene T) → TestsName hash accepted exchanged before name kept after → Keeps before after
    name-keeps before name kept after (inl (none, is, same)) = same-keeps before after same
    name-keeps before name kept after (inr asks) = each.tests before name kept after asks

    visits-keep : (place : ℕ) (next : Option ℕ) (before after : Scene T) → Visits hash accepted exchanged marks before place next after → Keeps before after
    visits-keep place None before after (gone, same) = same-keeps before after same
    visits-keep place (Some next) before after (signed, at, inl (awaits, is, same)) = same-keeps before after same
    visits-keep place (Some next) before after (signed, at, inr (free, (kept, tests, to))) = name-keeps before signed.promise.name kept after tests

    tests_from-keeps : (count : ℕ) (before : Scene T) (place : ℕ) (after : Scene T) → TestsFrom hash accepted exchanged marks count before place after → Keeps before after
    tests_from-keeps zero before place after visits = visits-keep place None before after visits
    tests_from-keeps (suc count) before place after (next, middle, visits, more) = each.both before middle after (visits-keep place (Some next) before middle visits) (tests_from-keeps count middle next after more)

    pub tests_all-keeps : (before after : Scene T) → TestsAll hash accepted exchanged marks before after → Keeps before after
    tests_all-keeps before after (count, tests) = tests_from-keeps count before 0 after tests

    visits_on-keeps : (count : ℕ) (before : Scene T) (place : ℕ) (after : Scene T) → VisitsOn hash accepted exchanged marks count before place after → Keeps before after
    visits_on-keeps zero before place after same = same-keeps before after same
    visits_on-keeps (suc count) before place after (next, middle, visits, more) = each.both before middle after (visits-keep place (Some next) before middle visits) (visits_on-keeps count middle next after more)

    pub tests_some-keeps : (before after : Scene T) → TestsSome hash accepted exchanged marks before after → Keeps before after
    tests_some-keeps before after (count, visits) = visits_on-keeps count before 0 after visits

    finds-keep : (count : ℕ) (before : Scene T) (name : List ℕ) (after : Scene T) → FindsKept hash accepted exchanged count before name after → Keeps before after
    finds-keep zero before name after tests = name-keeps before name false after tests
    finds-keep (suc count) before name after (middle, tests, more) = each.both before middle after (name-keeps before name true middle tests) (finds-keep count middle name after more)

    pub tests_named-keeps : (name : List ℕ) (before after : Scene T) → TestsNamed hash accepted exchanged marks name before after → Keeps before after
    tests_named-keeps name before after (inl (awaits, same)) = same-keeps before after same
    tests_named-keeps name before after (inr (free, (count, finds))) = finds-keep count before name after finds

    kept_on-keeps : (count : ℕ) (before : Scene T) (name : List ℕ) (after : Scene T) → KeptOn hash accepted exchanged count before name after → Keeps before after
    kept_on-keeps zero before name after same = same-keeps before after same
    kept_on-keeps (suc count) before name after (middle, tests, more) = each.both before middle after (name-keeps before name true middle tests) (kept_on-keeps count middle name after more)

    pub tests_some_named-keeps : (name : List ℕ) (before after : Scene T) → TestsSomeNamed hash accepted exchanged marks name before after → Keeps before after
    tests_some_named-keeps name before after (free, (count, kept)) = kept_on-keeps count before name after kept

    -- ---- monitors

    once-keeps : (before : Scene T) (place : ℕ) (went : Bool) (after : Scene T) → StepsOnce hash accepted exchanged before place went after → Keeps before after
    once-keeps before place went after (inl (none, not, same)) = same-keeps before after same
    once-keeps before place went after (inr (inl (found, not, same))) = same-keeps before after same
    once-keeps before place went after (inr (inr asks)) = each.steps before place went after asks

    pub through-keeps : (count : ℕ) (before : Scene T) (place : ℕ) (after : Scene T) → StepsThrough hash accepted exchanged count before place after → Keeps before after
    through-keeps zero before place after steps = once-keeps before place false after steps
    through-keeps (suc count) before place after (middle, steps, more) = each.both before middle after (once-keeps before place true middle steps) (through-keeps count middle place after more)

    pub all_step-keeps : (more : ℕ) (before : Scene T) (place : ℕ) (after : Scene T) → AllStep hash accepted exchanged more before place after → Keeps before after
    all_step-keeps zero before place after same = same-keeps before after same
    all_step-keeps (suc more) before place after (count, middle, steps, rest) = each.both before middle after (through-keeps count before place middle steps) (all_step-keeps more middle (suc place) after rest)

    pub goes_on-keeps : (before after : Scene T) → GoesOn hash accepted exchanged marks before after → Keeps before after
    goes_on-keeps before after (middle, steps, tests) = each.both before middle after (all_step-keeps (length before.monitors) before 0 middle steps) (tests_all-keeps middle after tests)

    pub steps_on-keeps : (count : ℕ) (before : Scene T) (place : ℕ) (after : Scene T) → StepsOn hash accepted exchanged count before place after → Keeps before after
    steps_on-keeps zero before place after same = same-keeps before after same
    steps_on-keeps (suc count) before place after (middle, steps, more) = each.both before middle after (once-keeps before place true middle steps) (steps_on-keeps count middle place after more)

    pub steps_some-keeps : (before : Scene T) (place : ℕ) (after : Scene T) → StepsSome hash accepted exchanged before place after → Keeps before after
    steps_some-keeps before place after (count, steps) = steps_on-keeps count before place after steps

    pub some_step-keeps : (more : ℕ) (before : Scene T) (place : ℕ) (after : Scene T) → SomeStep hash accepted exchanged more before place after → Keeps before after
    some_step-keeps zero before place after same = same-keeps before after same
    some_step-keeps (suc more) before place after (inl steps) = steps_some-keeps before place after steps
    some_step-keeps (suc more) before place after (inr (count, middle, steps, rest)) = each.both before middle after (through-keeps count before place middle steps) (some_step-keeps more middle (suc place) after rest)

    pub goes_some-keeps : (before after : Scene T) → GoesSome hash accepted exchanged marks before after → Keeps before after
    goes_some-keeps before after (inl steps) = some_step-keeps (length before.monitors) before 0 after steps
    goes_some-keeps before after (inr (middle, steps, tests)) = each.both before middle after (all_step-keeps (length before.monitors) before 0 middle steps) (tests_some-keeps middle after tests)

    -- ---- a monitor that joins

    module _ (key : List ℕ) (promised : List SignedPromise) (name : List ℕ) (given : Option BoundKey) (may : MayJoin key promised name given) where
      pub begins_at-keeps : (first : SignedRoot) (before after : Scene T) → IsUnwatched before.client.chain name marks (Some first) → BeginsAt hash accepted verified exchanged marks key promised name given first before after → Keeps before after
      begins_at-keeps first before after is (inl (monitor, joined, (count, steps))) =
          let added : Scene T = record before { monitors = before.monitors ++ monitor ∷ [] } in
          each.both before added after (each.joins before key promised name given first monitor may is joined) (through-keeps count added (length before.monitors) after steps)
      begins_at-keeps first before after is (inr (why, not, starts, same)) = subst (Keeps before) (sym same) (each.tells before _)

      pub begins_some_at-keeps : (first : SignedRoot) (before after : Scene T) → IsUnwatched before.client.chain name marks (Some first) → BeginsSomeAt hash accepted verified exchanged marks key promised name given first before after → Keeps before after
      begins_some_at-keeps first before after is (inl same) = same-keeps before after same
      begins_some_at-keeps first before after is (inr (monitor, joined, steps)) =
          let added : Scene T = record before { monitors = before.monitors ++ monitor ∷ [] } in
          each.both before added after (each.joins before key promised name given first monitor may is joined) (steps_some-keeps added (length before.monitors) after steps)

      pub watches_new-keeps : (before after : Scene T) → WatchesNew hash accepted verified exchanged marks key promised name given before after → Keeps before after
      watches_new-keeps before after (inl (none, (epoch, marked, same))) = subst (Keeps before) (sym same) (each.tells before (watched_told name epoch))
      watches_new-keeps before after (inr (first, is, (middle, begins, tests))) = each.both before middle after (begins_at-keeps first before middle is begins) (tests_named-keeps name middle after tests)

      pub watches_some-keeps : (before after : Scene T) → WatchesSome hash accepted verified exchanged marks key promised name given before after → Keeps before after
      watches_some-keeps before after (inl same) = same-keeps before after same
      watches_some-keeps before after (inr (first, is, inl begins)) = begins_some_at-keeps first before after is begins
      watches_some-keeps before after (inr (first, is, inr (middle, begins, tests))) = each.both before middle after (begins_at-keeps first before middle is begins) (tests_some_named-keeps name middle after tests)

      module _ (known : Memory) where
        pub begins_watch-keeps : (before after : Scene T) → BeginsWatch hash accepted verified exchanged known marks key promised name given before after → Keeps before after
        begins_watch-keeps before after (again, tells, watches) =
            let recalled : Scene T = record before { told = told_after before.told again } in
            each.both before recalled after (each.tells before again) (watches_new-keeps recalled after watches)

        pub begins_some-keeps : (before after : Scene T) → BeginsSome hash accepted verified exchanged known marks key promised name given before after → Keeps before after
        begins_some-keeps before after (inl same) = same-keeps before after same
        begins_some-keeps before after (inr (again, tells, watches)) =
            let recalled : Scene T = record before { told = told_after before.told again } in
            each.both before recalled after (each.tells before again) (watches_some-keeps recalled after watches)

    -- ---- a line

    module _ (epoch : ℕ) where
      pub advances-keep : (before : Scene T) (goes : Bool) (after : Scene T) → Advances hash accepted verified exchanged epoch before goes after → Keeps before after
      advances-keep before true after (low, (taken, takes, still, steps)) = each.both before taken after (each.takes before taken takes) (all_step-keeps (length taken.monitors) taken 0 after steps)
      advances-keep before false after (inl (there, same)) = same-keeps before after same
      advances-keep before false after (inr (low, inl none)) = none-keeps before after none
      advances-keep before false after (inr (low, inr (takes, there))) = each.takes before after takes

      pub advances_by-keep : (count : ℕ) (before after : Scene T) → AdvancesBy hash accepted verified exchanged epoch count before after → Keeps before after
      advances_by-keep zero before after same = same-keeps before after same
      advances_by-keep (suc count) before after (middle, advances, more) = each.both before middle after (advances-keep before true middle advances) (advances_by-keep count middle after more)

      pub catches_up-keeps : (before after : Scene T) → CatchesUp hash accepted verified exchanged epoch before after → Keeps before after
      catches_up-keeps before after (count, few, (middle, advances, last)) = each.both before middle after (advances_by-keep count before middle advances) (advances-keep middle false after last)

      pub stops_below-keeps : (may : MayStop) (before after : Scene T) → StopsBelow hash accepted verified exchanged epoch before after → Keeps before after
      stops_below-keeps may before after (count, (middle, advances, inl (few, low, stops))) = each.both before middle after (advances_by-keep count before middle advances) (each.stops middle after may stops)
      stops_below-keeps may before after (count, (middle, advances, inr (all, same))) = each.both before middle after (advances_by-keep count before middle advances) (same-keeps middle after same)

      pub advances_some-keeps : (before after : Scene T) → AdvancesSome hash accepted verified exchanged epoch before after → Keeps before after
      advances_some-keeps before after (inl same) = same-keeps before after same
      advances_some-keeps before after (inr (taken, takes, still, steps)) = each.both before taken after (each.takes before taken takes) (some_step-keeps (length taken.monitors) taken 0 after steps)

      pub catches_some-keeps : (before after : Scene T) → CatchesSome hash accepted verified exchanged epoch before after → Keeps before after
      catches_some-keeps before after (low, (count, middle, advances, inl (few, same))) = each.both before middle after (advances_by-keep count before middle advances) (same-keeps middle after same)
      catches_some-keeps before after (low, (count, middle, advances, inr (few, some))) = each.both before middle after (advances_by-keep count before middle advances) (advances_some-keeps middle after some)

    pub above-keeps : (epoch : ℕ) (before after : Scene T) → GoesOnAbove hash accepted verified exchanged marks epoch before after → Keeps before after
    above-keeps epoch before after (head, is, inl (low, same)) = same-keeps before after same
    above-keeps epoch before after (head, is, inr (high, goes)) = goes_on-keeps before after goes

    pub hears_only-keeps : {fault : AskFault} (held : ℕ) (asked : RequestContent) (frame : Frame) (noted noted' : List SignedPromise) (before after : Scene T) → HearsOnly hash accepted verified exchanged fault held asked frame noted noted' before after → Keeps before after
    hears_only-keeps held asked frame noted noted' before after (notes, told, hears, (shown, shows, tells), monitors, stream) =
        each.hears before after held asked frame told (told_after told shown) hears tells monitors

    pub hears_some-keeps : {fault : AskFault} (epoch : ℕ) (asked : RequestContent) (frame : Frame) (noted noted' : List SignedPromise) (before after : Scene T) → MayNote noted' → HearsSome hash accepted verified exchanged fault marks epoch asked frame noted noted' before after
        → Keeps before after
    hears_some-keeps epoch asked frame noted noted' before after may (inl (none, same)) = same-keeps before after same
    hears_some-keeps epoch asked frame noted noted' before after may (inr (inl hears)) = hears_only-keeps epoch asked frame noted noted' before after hears
    hears_some-keeps epoch asked frame noted noted' before after may (inr (inr (heard, hears, notes, (head, is, high, goes)))) =
        each.both before heard after (each.hands before heard epoch asked frame noted noted' hears notes may) (goes_some-keeps heard after goes)

    -- what comes of a reply, which leaves the stream as it is now
    behind : (before after : Scene T) (stream : T) → Keeps (record before { stream = stream }) after → Keeps before after
    behind before after stream keeps = each.both before (record before { stream = stream }) after (each.sends before stream) keeps

    pub reply-keeps : (held : ℕ) (asked : RequestContent) (frame : Frame) (noted noted' : List SignedPromise) (before after : Scene T) → MayNote noted' → HearsReply hash accepted verified exchanged marks held asked frame noted noted' before after → Keeps before after
    reply-keeps held asked frame noted noted' before after may hears =
        each.both before hears.heard after (each.hands before hears.heard held asked frame noted noted' hears.hears hears.notes may) (above-keeps held hears.heard after hears.goes)

    pub asks_directory-keeps : (token : List ℕ) (asked : RequestContent) (noted noted' : List SignedPromise) (before after : Scene T) → MayNote noted' → AsksDirectory hash accepted verified exchanged marks token asked noted noted' before after
        → Keeps before after
    asks_directory-keeps token asked noted noted' before after may asks =
        behind before after asks.reply.stream
        (each.both (replied asks.reply) asks.ready after (catches_up-keeps asks.reply.epoch (replied asks.reply) asks.ready asks.catches)
        (reply-keeps asks.reply.head.body.epoch asked asks.reply.frame noted noted' asks.ready after may asks.hears))

    pub hears_head-keeps : (held : ℕ) (frame : Frame) (before after : Scene T) → HearsHead hash accepted verified exchanged held frame before after → Keeps before after
    hears_head-keeps held frame before after head = each.hears before after held (Query Head) frame head.told (unless_fine head.told) head.hears head.tells head.same.0

    pub finds_head-keeps : (token : List ℕ) (before after : Scene T) → FindsHead hash accepted verified exchanged token before after → Keeps before after
    finds_head-keeps token before after finds =
        behind before after finds.reply.stream
        (each.both (replied finds.reply) finds.ready after (catches_up-keeps finds.reply.epoch (replied finds.reply) finds.ready finds.catches)
        (hears_head-keeps finds.reply.head.body.epoch finds.reply.frame finds.ready after finds.hears))

    pub stops_asking-keeps : (may : MayStop) (token : List ℕ) (asked : RequestContent) (before after : Scene T) → StopsAsking hash accepted verified exchanged token asked before after → Keeps before after
    stops_asking-keeps may token asked before after asks = behind before after asks.reply.stream (stops_below-keeps asks.reply.epoch may (replied asks.reply) after asks.stops)

    pub asks_on-keeps : {fault : AskFault} (token : List ℕ) (asked : RequestContent) (noted noted' : List SignedPromise) (before after : Scene T) → MayNote noted' → AsksOn hash accepted verified exchanged fault marks token asked noted noted' before after → Keeps before after
    asks_on-keeps {fault} token asked noted noted' before after may asks = behind before after asks.reply.stream (by asks.steps)
      where
        by : ((noted' ≡ noted) × CatchesSome hash accepted verified exchanged asks.reply.epoch (replied asks.reply) after)
            ⊎ ((ready : Scene T) × CatchesUp hash accepted verified exchanged asks.reply.epoch (replied asks.reply) ready × HearsSome hash accepted verified exchanged fault marks asks.reply.head.body.epoch asked asks.reply.frame noted noted' ready after)
            → Keeps (replied asks.reply) after
        by (inl (none, some)) = catches_some-keeps asks.reply.epoch (replied asks.reply) after some
        by (inr (ready, catches, hears)) = each.both (replied asks.reply) ready after (catches_up-keeps asks.reply.epoch (replied asks.reply) ready catches)
            (hears_some-keeps asks.reply.head.body.epoch asked asks.reply.frame noted noted' ready after may hears)

    pub asks_some-keeps : {fault : AskFault} (token : List ℕ) (asked : RequestContent) (noted noted' : List SignedPromise) (before after : Scene T) → MayNote noted' → AsksSome hash accepted verified exchanged fault marks token asked noted noted' before after → Keeps before after
    asks_some-keeps token asked noted noted' before after may (inl (none, same)) = same-keeps before after same
    asks_some-keeps token asked noted noted' before after may (inr asks) = asks_on-keeps token asked noted noted' before after may asks

    pub finds_some-keeps : (token : List ℕ) (before after : Scene T) → FindsSome hash accepted verified exchanged token before after → Keeps before after
    finds_some-keeps token before after (inl same) = same-keeps before after same
    finds_some-keeps token before after (inr (reply, inl some)) = behind before after reply.stream (catches_some-keeps reply.epoch (replied reply) after some)
    finds_some-keeps token before after (inr (reply, inr catches)) = behind before after reply.stream (catches_up-keeps reply.epoch (replied reply) after catches)

-- ---- before the lines, and a line

module _ {T : Type 0} (hash : List ℕ → List ℕ) (accepted verified : List ℕ → List ℕ → List ℕ → Type 0) (exchanged : T → RequestContent → Frame → T → Type 0) (background : Background)
    {MayNote : List SignedPromise → Type 0} {MayJoin : List ℕ → List SignedPromise → List ℕ → Option BoundKey → Type 0} {MayStop : Type 0} {Keeps : Scene T → Scene T → Type 0}
    (each : EachKeeps hash accepted verified exchanged background.marks MayNote MayJoin MayStop Keeps) where
  module _ (HasNoState : Type 0) where
    pub prepares-keeps : (before after : Scene T) → Prepares hash accepted verified exchanged background HasNoState before after → Keeps before after
    prepares-keeps before after (inl (none, same)) = same-keeps hash accepted verified exchanged background.marks each before after same
    prepares-keeps before after (inr (there, (middle, finds, tests))) = each.both before middle after (finds_head-keeps hash accepted verified exchanged background.marks each background.token before middle finds) (tests_all-keeps hash accepted verified exchanged background.marks each middle after tests)

    pub prepares_some-keeps : (may : MayStop) (before after : Scene T) → PreparesSome hash accepted verified exchanged background HasNoState before after → Keeps before after
    prepares_some-keeps may before after (inl prepares) = prepares-keeps before after prepares
    prepares_some-keeps may before after (inr (there, inl some)) = finds_some-keeps hash accepted verified exchanged background.marks each background.token before after some
    prepares_some-keeps may before after (inr (there, inr (inl stops))) = stops_asking-keeps hash accepted verified exchanged background.marks each may background.token (Query Head) before after stops
    prepares_some-keeps may before after (inr (there, inr (inr (middle, finds, tests)))) =
        each.both before middle after (finds_head-keeps hash accepted verified exchanged background.marks each background.token before middle finds) (tests_some-keeps hash accepted verified exchanged background.marks each middle after tests)

  pub looks_some-keeps : (held : ℕ) (frame : Frame) (before after : Scene T) → LooksSome hash accepted verified exchanged background held frame before after → Keeps before after
  looks_some-keeps held frame before after (inl same) = same-keeps hash accepted verified exchanged background.marks each before after same
  looks_some-keeps held frame before after (inr (middle, hears, inl tests)) =
      each.both before middle after (hears_head-keeps hash accepted verified exchanged background.marks each held frame before middle hears) (tests_all-keeps hash accepted verified exchanged background.marks each middle after tests)
  looks_some-keeps held frame before after (inr (middle, hears, inr tests)) =
      each.both before middle after (hears_head-keeps hash accepted verified exchanged background.marks each held frame before middle hears) (tests_some-keeps hash accepted verified exchanged background.marks each middle after tests)

  -- ---- and what a line says

  pub does_some-keeps : (fault : AskFault) (stop : MayStop) (said : ScriptLine) (noted noted' : List SignedPromise) (before after : Scene T) → MayNote noted'
      → ((name : List ℕ) (given : Option BoundKey) → said ≡ Watch name given → MayJoin background.key (own_for background.marks name background.earlier noted) name given)
      → DoesSomeNoting hash accepted verified exchanged background fault said noted noted' before after → Keeps before after
  does_some-keeps fault stop said noted noted' before after may join (inl (same, none)) = subst (Keeps before) (sym same) (each.none before)
  does_some-keeps fault stop Pass noted noted' before after may join (inr (inl (same, none))) = subst (Keeps before) (sym same) (each.none before)
  does_some-keeps fault stop Pass noted noted' before after may join (inr (inr part)) = absurd part
  does_some-keeps fault stop (Ask asked) noted noted' before after may join (inr (inl asks)) =
      asks_directory-keeps hash accepted verified exchanged background.marks each background.token asked noted noted' before after may asks
  does_some-keeps fault stop (Ask asked) noted noted' before after may join (inr (inr (inl (stops, none)))) = stops_asking-keeps hash accepted verified exchanged background.marks each stop background.token asked before after stops
  does_some-keeps fault stop (Ask asked) noted noted' before after may join (inr (inr (inr some))) =
      asks_some-keeps hash accepted verified exchanged background.marks each background.token asked noted noted' before after may some
  does_some-keeps fault stop (Watch name given) noted noted' before after may join (inr (inl (begins, none))) =
      begins_watch-keeps hash accepted verified exchanged background.marks each background.key (own_for background.marks name background.earlier noted) name given (join name given refl) background.known before after begins
  does_some-keeps fault stop (Watch name given) noted noted' before after may join (inr (inr (begins, none))) =
      begins_some-keeps hash accepted verified exchanged background.marks each background.key (own_for background.marks name background.earlier noted) name given (join name given refl) background.known before after begins
  does_some-keeps fault stop (Piece session piece) noted noted' before after may join (inr (inl none)) = absurd none
  does_some-keeps fault stop (Piece session piece) noted noted' before after may join (inr (inr none)) = absurd none
  does_some-keeps fault stop (End session) noted noted' before after may join (inr (inl none)) = absurd none
  does_some-keeps fault stop (End session) noted noted' before after may join (inr (inr none)) = absurd none
