-- What was told before a step does not matter to it: from a scene in which more was told before, the same step leads to
-- one in which this was told before, too. So the parts of a line can be written one after another.
use Rattle.std.proofs.Common.{◌≡◌, ◌∙◌, ℕ, zero, suc, true, false, Bool, List, length, Option, Some, None, ap, append_assoc, arith, inl, inr, sym}
use Rattle.rootchain.specs.declared.signed_promise.SignedPromise.{SignedPromise}
use Rattle.wire.specs.Frames.{Frame}
use Rattle.wire.specs.Requests.{RequestContent}
use Rattle.memory.specs.declared.mark.Mark.{Mark}
use Rattle.asking.specs.declared.ask_fault.AskFault.{AskFault}
use Rattle.asking.specs.Asking.{GoesOnAbove, HearsHead, HearsOne, HearsReply, HearsSome}
use Rattle.asking.specs.Catching.{Advances, AdvancesBy, AdvancesSome}
use Rattle.asking.specs.Following.{StopsList, TakesList}
use Rattle.asking.specs.Reports.{told_after, unless_fine, worse, Report}
use Rattle.asking.specs.Scenes.{Scene}
use Rattle.asking.specs.Visiting.{AsksDue, TestsAll, TestsFrom, TestsSome, Visits, VisitsOn}
use Rattle.asking.specs.Watching.{AllStep, AsksEpoch, GoesOn, GoesSome, SomeStep, StepsOn, StepsOnce, StepsThrough}

worse-worse : (one two three : ℕ) → worse one (worse two three) ≡ worse (worse one two) three
worse-worse one two three = grind arith

told-of : (lines lines' : List ℕ) (status status' : ℕ) → lines ≡ lines' → status ≡ status' → ◌≡◌ {A = Report} (record { lines = lines; status = status }) (record { lines = lines'; status = status' })
told-of lines lines' status status' one other = ap (λ (xs : List ℕ). let t : Report = record { lines = xs; status = status } in t) one ∙ ap (λ (n : ℕ). let t : Report = record { lines = lines'; status = n } in t) other

pub after-after : (one two three : Report) → told_after one (told_after two three) ≡ told_after (told_after one two) three
after-after one two three = told-of _ _ _ _ (sym (append_assoc one.lines two.lines three.lines)) (worse-worse one.status two.status three.status)

-- this was told before all that was told in a scene
abbrev pub shifted : {T : Type 0} → Report → Scene T → Scene T
shifted first before = record before { told = told_after first before.told }

module _ {T : Type 0} (hash : List ℕ → List ℕ) (accepted verified : List ℕ → List ℕ → List ℕ → Type 0) (exchanged : T → RequestContent → Frame → T → Type 0) (marks : List Mark) (first : Report) where
  further : (before after : Scene T) (told : Report) → after.told ≡ told_after before.told told → told_after first after.told ≡ told_after (told_after first before.told) told
  further before after told is = ap (λ (r : Report). told_after first r) is ∙ after-after first before.told told

  same-shifts : (before after : Scene T) → after ≡ before → shifted first after ≡ shifted first before
  same-shifts before after same = ap (λ (s : Scene T). shifted first s) same

  -- ---- promises

  due-shifts : (before : Scene T) (name : List ℕ) (kept : Bool) (after : Scene T) → AsksDue hash accepted exchanged before name kept after → AsksDue hash accepted exchanged (shifted first before) name kept (shifted first after)
  due-shifts before name kept after asks = record {
    epoch = asks.epoch;
    due = asks.due;
    frame = asks.frame;
    exchange = asks.exchange;
    told = asks.told;
    shows = asks.shows;
    shown = asks.shown;
    notes = asks.notes;
    tells = further before after (told_after asks.told asks.shown) asks.tells;
    monitors = asks.monitors;
  }

  visits-shift : (place : ℕ) (next : Option ℕ) (before after : Scene T) → Visits hash accepted exchanged marks before place next after → Visits hash accepted exchanged marks (shifted first before) place next (shifted first after)
  visits-shift place None before after (gone, same) = (gone, same-shifts before after same)
  visits-shift place (Some next) before after (signed, at, inl (awaits, is, same)) = (signed, at, inl (awaits, is, same-shifts before after same))
  visits-shift place (Some next) before after (signed, at, inr (free, (kept, inl (none, is, same), to))) = (signed, at, inr (free, (kept, inl (none, is, same-shifts before after same), to)))
  visits-shift place (Some next) before after (signed, at, inr (free, (kept, inr asks, to))) = (signed, at, inr (free, (kept, inr (due-shifts before signed.promise.name kept after asks), to)))

  tests_from-shifts : (count : ℕ) (before : Scene T) (place : ℕ) (after : Scene T) → TestsFrom hash accepted exchanged marks count before place after → TestsFrom hash accepted exchanged marks count (shifted first before) place (shifted first after)
  tests_from-shifts zero before place after visits = visits-shift place None before after visits
  tests_from-shifts (suc count) before place after (next, middle, visits, more) = (next, shifted first middle, visits-shift place (Some next) before middle visits, tests_from-shifts count middle next after more)

  pub tests_all-shifts : (before after : Scene T) → TestsAll hash accepted exchanged marks before after → TestsAll hash accepted exchanged marks (shifted first before) (shifted first after)
  tests_all-shifts before after (count, tests) = (count, tests_from-shifts count before 0 after tests)

  visits_on-shift : (count : ℕ) (before : Scene T) (place : ℕ) (after : Scene T) → VisitsOn hash accepted exchanged marks count before place after → VisitsOn hash accepted exchanged marks count (shifted first before) place (shifted first after)
  visits_on-shift zero before place after same = same-shifts before after same
  visits_on-shift (suc count) before place after (next, middle, visits, more) = (next, shifted first middle, visits-shift place (Some next) before middle visits, visits_on-shift count middle next after more)

  pub tests_some-shift : (before after : Scene T) → TestsSome hash accepted exchanged marks before after → TestsSome hash accepted exchanged marks (shifted first before) (shifted first after)
  tests_some-shift before after (count, visits) = (count, visits_on-shift count before 0 after visits)

  -- ---- monitors

  epoch-shifts : (before : Scene T) (place : ℕ) (went : Bool) (after : Scene T) → AsksEpoch hash accepted exchanged before place went after → AsksEpoch hash accepted exchanged (shifted first before) place went (shifted first after)
  epoch-shifts before place went after asks = record {
    monitor = asks.monitor;
    at = asks.at;
    epoch = asks.epoch;
    next = asks.next;
    frame = asks.frame;
    exchange = asks.exchange;
    told = asks.told;
    watched = asks.watched;
    shows = asks.shows;
    shown = asks.shown;
    notes = asks.notes;
    found = asks.found;
    tells = further before after (told_after asks.told (told_after asks.shown asks.found)) asks.tells;
    monitors = asks.monitors;
    client = asks.client;
  }

  once-shifts : (before : Scene T) (place : ℕ) (went : Bool) (after : Scene T) → StepsOnce hash accepted exchanged before place went after → StepsOnce hash accepted exchanged (shifted first before) place went (shifted first after)
  once-shifts before place went after (inl (none, not, same)) = inl (none, not, same-shifts before after same)
  once-shifts before place went after (inr (inl (found, not, same))) = inr (inl (found, not, same-shifts before after same))
  once-shifts before place went after (inr (inr asks)) = inr (inr (epoch-shifts before place went after asks))

  through-shifts : (count : ℕ) (before : Scene T) (place : ℕ) (after : Scene T) → StepsThrough hash accepted exchanged count before place after → StepsThrough hash accepted exchanged count (shifted first before) place (shifted first after)
  through-shifts zero before place after steps = once-shifts before place false after steps
  through-shifts (suc count) before place after (middle, steps, more) = (shifted first middle, once-shifts before place true middle steps, through-shifts count middle place after more)

  all_step-shifts : (more : ℕ) (before : Scene T) (place : ℕ) (after : Scene T) → AllStep hash accepted exchanged more before place after → AllStep hash accepted exchanged more (shifted first before) place (shifted first after)
  all_step-shifts zero before place after same = same-shifts before after same
  all_step-shifts (suc more) before place after (count, middle, steps, rest) = (count, shifted first middle, through-shifts count before place middle steps, all_step-shifts more middle (suc place) after rest)

  pub goes_on-shifts : (before after : Scene T) → GoesOn hash accepted exchanged marks before after → GoesOn hash accepted exchanged marks (shifted first before) (shifted first after)
  goes_on-shifts before after (middle, steps, tests) = (shifted first middle, all_step-shifts (length before.monitors) before 0 middle steps, tests_all-shifts middle after tests)

  steps_on-shift : (count : ℕ) (before : Scene T) (place : ℕ) (after : Scene T) → StepsOn hash accepted exchanged count before place after → StepsOn hash accepted exchanged count (shifted first before) place (shifted first after)
  steps_on-shift zero before place after same = same-shifts before after same
  steps_on-shift (suc count) before place after (middle, steps, more) = (shifted first middle, once-shifts before place true middle steps, steps_on-shift count middle place after more)

  some_step-shifts : (more : ℕ) (before : Scene T) (place : ℕ) (after : Scene T) → SomeStep hash accepted exchanged more before place after → SomeStep hash accepted exchanged more (shifted first before) place (shifted first after)
  some_step-shifts zero before place after same = same-shifts before after same
  some_step-shifts (suc more) before place after (inl (count, steps)) = inl (count, steps_on-shift count before place after steps)
  some_step-shifts (suc more) before place after (inr (count, middle, steps, rest)) = inr (count, shifted first middle, through-shifts count before place middle steps, some_step-shifts more middle (suc place) after rest)

  pub goes_some-shifts : (before after : Scene T) → GoesSome hash accepted exchanged marks before after → GoesSome hash accepted exchanged marks (shifted first before) (shifted first after)
  goes_some-shifts before after (inl steps) = inl (some_step-shifts (length before.monitors) before 0 after steps)
  goes_some-shifts before after (inr (middle, steps, tests)) = inr (shifted first middle, all_step-shifts (length before.monitors) before 0 middle steps, tests_some-shift middle after tests)

  -- ---- lists of roots

  takes-shifts : (before : Scene T) (went : Bool) (after : Scene T) → TakesList hash verified exchanged before went after → TakesList hash verified exchanged (shifted first before) went (shifted first after)
  takes-shifts before false after (inl (head, is, last, same)) = inl (head, is, last, same-shifts before after same)
  takes-shifts before false after (inr (frame, stream, asks, none, same)) =
      let moved : Scene T = record before { stream = stream } in
      inr (frame, stream, record { head = asks.head; is = asks.is; exchange = asks.exchange; answered = asks.answered }, none, same-shifts moved after same)
  takes-shifts before true after (frame, asks, updates, same, above, finals) =
      (frame, record { head = asks.head; is = asks.is; exchange = asks.exchange; answered = asks.answered }, updates, ap (λ (r : Report). told_after first r) same, above, finals)

  pub stops-shift : (before after : Scene T) → StopsList hash verified exchanged before after → StopsList hash verified exchanged (shifted first before) (shifted first after)
  stops-shift before after (head, is, frame, exchange, told, stops, tells, finals) = (head, is, frame, exchange, told, stops, further before after told tells, finals)

  module _ (epoch : ℕ) where
    pub advances-shift : (before : Scene T) (goes : Bool) (after : Scene T) → Advances hash accepted verified exchanged epoch before goes after → Advances hash accepted verified exchanged epoch (shifted first before) goes (shifted first after)
    advances-shift before true after (low, (taken, takes, still, steps)) = (low, (shifted first taken, takes-shifts before true taken takes, still, all_step-shifts (length taken.monitors) taken 0 after steps))
    advances-shift before false after (inl (there, same)) = inl (there, same-shifts before after same)
    advances-shift before false after (inr (low, inl none)) = inr (low, inl (takes-shifts before false after none))
    advances-shift before false after (inr (low, inr (takes, there))) = inr (low, inr (takes-shifts before true after takes, there))

    pub advances_by-shift : (count : ℕ) (before after : Scene T) → AdvancesBy hash accepted verified exchanged epoch count before after → AdvancesBy hash accepted verified exchanged epoch count (shifted first before) (shifted first after)
    advances_by-shift zero before after same = same-shifts before after same
    advances_by-shift (suc count) before after (middle, advances, more) = (shifted first middle, advances-shift before true middle advances, advances_by-shift count middle after more)

    pub advances_some-shift : (before after : Scene T) → AdvancesSome hash accepted verified exchanged epoch before after → AdvancesSome hash accepted verified exchanged epoch (shifted first before) (shifted first after)
    advances_some-shift before after (inl same) = inl (same-shifts before after same)
    advances_some-shift before after (inr (taken, takes, still, steps)) = inr (shifted first taken, takes-shifts before true taken takes, still, some_step-shifts (length taken.monitors) taken 0 after steps)

  -- ---- what is heard

  one-shifts : (held : ℕ) (asked : RequestContent) (frame : Frame) (before after : Scene T) → HearsOne hash accepted verified exchanged held asked frame before after → HearsOne hash accepted verified exchanged held asked frame (shifted first before) (shifted first after)
  one-shifts held asked frame before after hears = record {
    told = hears.told;
    hears = hears.hears;
    shown = hears.shown;
    notes = hears.notes;
    handed = hears.handed;
    hands = hears.hands;
    tells = ap (λ (r : Report). told_after first r) hears.tells ∙ after-after first (told_after before.told (told_after hears.told hears.shown)) hears.handed
        ∙ ap (λ (r : Report). told_after r hears.handed) (after-after first before.told (told_after hears.told hears.shown));
    stream = hears.stream;
  }

  above-shifts : (held : ℕ) (before after : Scene T) → GoesOnAbove hash accepted verified exchanged marks held before after → GoesOnAbove hash accepted verified exchanged marks held (shifted first before) (shifted first after)
  above-shifts held before after (head, is, inl (low, same)) = (head, is, inl (low, same-shifts before after same))
  above-shifts held before after (head, is, inr (high, goes)) = (head, is, inr (high, goes_on-shifts before after goes))

  pub reply-shifts : (held : ℕ) (asked : RequestContent) (frame : Frame) (noted noted' : List SignedPromise) (before after : Scene T) → HearsReply hash accepted verified exchanged marks held asked frame noted noted' before after
      → HearsReply hash accepted verified exchanged marks held asked frame noted noted' (shifted first before) (shifted first after)
  reply-shifts held asked frame noted noted' before after hears = record {
    heard = shifted first hears.heard;
    hears = one-shifts held asked frame before hears.heard hears.hears;
    notes = hears.notes;
    goes = above-shifts held hears.heard after hears.goes;
  }

  pub hears_some-shifts : (fault : AskFault) (held : ℕ) (asked : RequestContent) (frame : Frame) (noted noted' : List SignedPromise) (before after : Scene T) → HearsSome hash accepted verified exchanged fault marks held asked frame noted noted' before after
      → HearsSome hash accepted verified exchanged fault marks held asked frame noted noted' (shifted first before) (shifted first after)
  hears_some-shifts fault held asked frame noted noted' before after (inl (none, same)) = inl (none, same-shifts before after same)
  hears_some-shifts fault held asked frame noted noted' before after (inr (inl (notes, told, hears, (shown, shows, tells), monitors, stream))) =
      inr (inl (notes, told, hears, (shown, shows, further before after (told_after told shown) tells), monitors, stream))
  hears_some-shifts fault held asked frame noted noted' before after (inr (inr (heard, hears, notes, (head, is, high, goes)))) =
      inr (inr (shifted first heard, one-shifts held asked frame before heard hears, notes, (head, is, high, goes_some-shifts heard after goes)))

  pub head-shifts : (held : ℕ) (frame : Frame) (before after : Scene T) → HearsHead hash accepted verified exchanged held frame before after → HearsHead hash accepted verified exchanged held frame (shifted first before) (shifted first after)
  head-shifts held frame before after head = record { told = head.told; hears = head.hears; tells = further before after (unless_fine head.told) head.tells; same = head.same }
