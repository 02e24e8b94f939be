-- A promise that is handed to monitors, one after another, and what is told of it.
use Rattle.std.proofs.Common.{◌≡◌, ◌∙◌, ◌⊎◌, ◌+◌, ◌<◌, ◌≤◌, ◌++◌, ◌∷◌, [], ℕ, List, Option, Some, Result, Ok, Err, ap, arith, append-nil, append_assoc, drop, get_or, inl, inr, length, refl, rules, slice_set, subst, sym, take, take_all}
use Rattle.std.specs.Prelude.{OnOk}
use Rattle.std.proofs.lemmas.List.{drop_all, drop_more, take_more_set}
use Rattle.rootchain.specs.declared.signed_promise.SignedPromise.{SignedPromise}
use Rattle.monitor.specs.Monitors.{Monitor}
use Rattle.monitor.specs.declared.monitor_refusal.Refusal.{Refusal}
use Rattle.wire.specs.Requests.{RequestContent, Put, Query, Turn}
use Rattle.asking.specs.declared.said.Said.{Said}
use Rattle.asking.specs.Asking.{handed_told, Hands, HandsAll, HandsTo, IsChange}
use Rattle.asking.specs.Reports.{Report, Tells, report_of, silent, told_after, worse}
use Rattle.asking.proofs.Going.{after_after, told_onto}
use Rattle.asking.proofs.Telling.{worse_none}
use Rattle.play.proofs.Moved.{AreMoved, moved-begin, moved-step}

worse-zero : (status : ℕ) → worse status 0 ≡ status
worse-zero status = grind arith

-- nothing is told behind it
pub told_silent : (before : Report) → told_after before silent ≡ before
told_silent before = ap (λ (xs : List ℕ). let t : Report = record { lines = xs; status = worse before.status 0 } in t) (append-nil before.lines)
    ∙ ap (λ (n : ℕ). let t : Report = record { lines = before.lines; status = n } in t) (worse-zero before.status)

-- one that has said nothing
pub report_silent : (said : Said) → said.text.items ≡ [] → said.status ≡ 0 → report_of said ≡ silent
report_silent said text status = ap (λ (xs : List ℕ). let t : Report = record { lines = xs; status = said.status } in t) text
    ∙ ap (λ (n : ℕ). let t : Report = record { lines = []; status = n } in t) status

-- it is told behind nothing
pub told_alone : (told : Report) → told_after silent told ≡ told
told_alone told = ap (λ (n : ℕ). let t : Report = record { lines = told.lines; status = n } in t) (worse_none told.status)

-- two reports of one that had said nothing, which was then joined
pub told_both : (empty now noted said said' : Said) (told shown : Report) → report_of empty ≡ silent → Tells empty told now → Tells now shown noted → Tells said (report_of noted) said'
    → report_of said' ≡ told_after (report_of said) (told_after told shown)
told_both empty now noted said said' told shown quiet first second joined =
    let one : report_of now ≡ told = told_onto empty now told first ∙ ap (λ (r : Report). told_after r told) quiet ∙ told_alone told in
    let both : report_of noted ≡ told_after told shown = told_onto now noted shown second ∙ ap (λ (r : Report). told_after r shown) one in
    told_onto said said' (report_of noted) joined ∙ ap (λ (r : Report). told_after (report_of said) r) both

-- and three
pub told_three : (empty now noted tested said said' : Said) (told shown found : Report) → report_of empty ≡ silent → Tells empty told now → Tells now shown noted → Tells noted found tested → Tells said (report_of tested) said'
    → report_of said' ≡ told_after (report_of said) (told_after told (told_after shown found))
told_three empty now noted tested said said' told shown found quiet first second third joined =
    let one : report_of now ≡ told = told_onto empty now told first ∙ ap (λ (r : Report). told_after r told) quiet ∙ told_alone told in
    let both : report_of noted ≡ told_after told shown = told_onto now noted shown second ∙ ap (λ (r : Report). told_after r shown) one in
    let all : report_of tested ≡ told_after (told_after told shown) found = told_onto noted tested found third ∙ ap (λ (r : Report). told_after r found) both in
    told_onto said said' (report_of tested) joined ∙ ap (λ (r : Report). told_after (report_of said) r) (all ∙ sym (after_after told shown found))

-- nothing is said
pub tells_silent : (said : Said) → Tells said silent said
tells_silent said = (sym (append-nil said.text.items), sym (worse-zero said.status))

abbrev pub Anything : Monitor → Monitor → Type 0
Anything before after = Unit {0}

module _ (hash : List ℕ → List ℕ) (accepted verified : List ℕ → List ℕ → List ℕ → Type 0) where
  module _ (signed : SignedPromise) (promise : List ℕ) where
    -- the monitors before this place were given it, and the others are as they were: whatever comes of these completes the whole
    pub record Handing (before : List Monitor) (first : Report) (place : ℕ) (now : List Monitor) (here : Report) : Type 0 where
      pub moved : AreMoved Anything before place now
      pub rest : (last : Report) (more : List Monitor) → HandsAll hash accepted verified signed promise (drop place before) here last more
          → HandsAll hash accepted verified signed promise before first last (take place now ++ more)

    pub handing_begins : (before : List Monitor) (first : Report) → Handing before first 0 before first
    handing_begins before first = record { moved = moved-begin Anything before; rest = λ last more hands. hands }

    pub handing_goes : (before now : List Monitor) (first here here' : Report) (place : ℕ) (why : Option Refusal) (monitor : Monitor) → place < length now → length now ≡ length before
        → ((d : Monitor) → HandsTo hash accepted verified signed promise (get_or now place d) why monitor) → here' ≡ told_after here (handed_told why)
        → Handing before first place now here → Handing before first (place + 1) (slice_set now place monitor) here'
    handing_goes before now first here here' place why monitor below long hands told handing = record {
      moved = moved-step Anything before now place monitor below (λ d. tt) handing.moved;
      rest = λ last more later.
          let one : HandsTo hash accepted verified signed promise (get_or before place monitor) why monitor =
          subst (λ (m : Monitor). HandsTo hash accepted verified signed promise m why monitor) (handing.moved.still place monitor (omega arith)) (hands monitor) in
          let behind = subst (λ (r : Report). HandsAll hash accepted verified signed promise (drop (place + 1) before) r last more) told later in
          let both : HandsAll hash accepted verified signed promise (get_or before place monitor ∷ drop (place + 1) before) here last (monitor ∷ more) = (why, one, behind) in
          let from = subst (λ (ms : List Monitor). HandsAll hash accepted verified signed promise ms here last (monitor ∷ more)) (sym (drop_more before place monitor (omega (arith, below, long)))) both in
          let same : take place now ++ monitor ∷ more ≡ take (place + 1) (slice_set now place monitor) ++ more =
          sym (ap (λ (ms : List Monitor). ms ++ more) (take_more_set now place monitor below) ∙ append_assoc (take place now) (monitor ∷ []) more) in
          subst (λ (ms : List Monitor). HandsAll hash accepted verified signed promise before first last ms) same (handing.rest last (monitor ∷ more) from);
    }

    pub handing_ends : (before now : List Monitor) (first here : Report) (place : ℕ) → length now ≡ length before → length before ≤ place → Handing before first place now here
        → HandsAll hash accepted verified signed promise before first here now
    handing_ends before now first here place long past handing =
        let none = subst (λ (ms : List Monitor). HandsAll hash accepted verified signed promise ms here here []) (sym (drop_all place before past)) refl in
        let same : take place now ++ [] ≡ now = append-nil (take place now) ∙ take_all place now (omega (arith, long, past)) in
        subst (λ (ms : List Monitor). HandsAll hash accepted verified signed promise before first here ms) same (handing.rest here [] none)

  one-promise : (x y : SignedPromise) (o : Option SignedPromise) → o ≡ Some x → o ≡ Some y → x ≡ y
  one-promise x y o one other = search (rules, sym one ∙ other)

  -- the last promise was handed out, whichever it is called, and what was told of it is said
  pub hands_last : {A E : Type 0} (result : Result A E) (last : Option SignedPromise) (own : SignedPromise) (promise : List ℕ) (before given after back : List Monitor) (empty now said said' : Said)
      → last ≡ Some own → given ≡ before → back ≡ after → report_of empty ≡ silent
      → HandsAll hash accepted verified own promise given (report_of empty) (report_of now) after → OnOk result (Tells said (report_of now) said')
      → OnOk result ((signed : SignedPromise) → last ≡ Some signed → (told : Report) × HandsAll hash accepted verified signed promise before silent told back × Tells said told said')
  hands_last (Ok done) last own promise before given after back empty now said said' is old same none hands tells =
      λ signed named.
      let one : own ≡ signed = one-promise own signed last is named in
      let behind = subst (λ (ms : List Monitor). HandsAll hash accepted verified own promise given (report_of empty) (report_of now) ms) (sym same) hands in
      let from = subst (λ (ms : List Monitor). HandsAll hash accepted verified own promise ms (report_of empty) (report_of now) back) old behind in
      let quiet = subst (λ (r : Report). HandsAll hash accepted verified own promise before r (report_of now) back) none from in
      (report_of now, subst (λ (p : SignedPromise). HandsAll hash accepted verified p promise before silent (report_of now) back) one quiet, tells)
  hands_last (Err fault) last own promise before given after back empty now said said' is old same none hands tells = tt

  -- nothing was kept for a change of the client's own, so none is handed out
  pub hands_none : (asked : RequestContent) (promise : List ℕ) (before after : List SignedPromise) (monitors : List Monitor)
      → (¬ IsChange asked) ⊎ (length after ≤ length before) → Hands hash accepted verified asked promise before after monitors silent monitors
  hands_none (Put verb name key) promise before after monitors (inl other) = absurd (other tt)
  hands_none (Put verb name key) promise before after monitors (inr few) = inl (few, refl, refl)
  hands_none (Query query) promise before after monitors none = (refl, refl)
  hands_none (Turn token epoch _) promise before after monitors none = (refl, refl)
