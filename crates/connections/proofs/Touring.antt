-- How a round begins, and what comes of rounds.
use Rattle.std.proofs.Common.{◌≡◌, ◌≢◌, ◌⊎◌, ℕ, zero, suc, ◌+◌, ◌-◌, ◌^◌, ◌<◌, ◌≤◌, List, [], ◌∷◌, length, get_or, set, Bool, true, false, Option, None, Some, refl, sym, ap, subst, ◌∙◌, arith, inl, inr, below_more, get_or-set_same, get_or-set_other}
use Rattle.std.proofs.Math.Nat.{le-min, min-le_left, min-le_right}
use Rattle.std.proofs.lemmas.Bool.{cases_lt, eqb-true, eqb-false, false≢true}
use Rattle.std.proofs.lemmas.List.{get_or_past, get_or_read}
use Rattle.std.specs.Prelude.{◌==◌, ◌↔◌, ◌||◌, if◌then◌else◌, min}
use Rattle.connections.specs.declared.ending.Ending.{Ending}
use Rattle.connections.specs.declared.ending.Ending.TheVariants.{Done, Fault, Idle, Stopped, Unsynced, Memory, Refused}
use Rattle.connections.specs.declared.ending.SessionFault.{SessionFault}
use Rattle.connections.specs.declared.loop_limits.TheConstants.{LAST_MILLISECONDS, LONGEST_WAIT}
use Rattle.connections.specs.declared.talk.Talk.{Talk}
use Rattle.connections.specs.Endings.{AreInside, AreWithin, HasEnded, IsClosing, IsFinished, IsStopped, comers, most_comers, rounds}
use Rattle.connections.specs.Fairness.{AreAttended, AreHeard, AreServed, AreUsed, IsAttended, IsFair, IsServed, IsUsed, IsWhole, NoneOrdered, NoneWaited}
use Rattle.connections.specs.Rounds.{gives_turn, offers, InRound, IsUnread}
use Rattle.connections.specs.Fitting.{AreUnread, Begins, Fits, FitAll, Has, HasWholeRounds, IsKnownBusy, KeepsTalk, KnowsPause, KnowsPauseAt, MayOrder, ServesPlace, Stays, StaysInRound, Tours, Turns}
use Rattle.connections.specs.Histories.{At, Ordered, GoesOn, Syncs, History, Course, Hearing, IfThere, Telling, Stage, clock, course, rested, stage, stopped, Leads}
use Rattle.connections.specs.Pauses.{IsPause, MayStay, pause_of, until_due, until_idle, until_stopped}
use Rattle.connections.specs.Soundness.{Here, IsReason, IsTaken}
use Rattle.connections.specs.Telling.{answered_unkept, has_unkept, losses, unsynced, TellsAll, TellsLines}
use Rattle.connections.proofs.Closing.{fits_none}
use Rattle.connections.proofs.Steps.{lasts_both, lasts_none, some_there}
use Rattle.connections.proofs.Unkept.{told_on}

-- nothing happened yet
pub all_free : (places : List (Option Talk)) → ((place : ℕ) → get_or places place None ≡ None) → FitAll places []
all_free places free = λ place. subst (λ (slot : Option Talk). Fits slot None) (sym (free place)) tt

-- ---- a place that has had its turn

-- all places still fit, of which one has changed
set_fits : (places : List (Option Talk)) (place : ℕ) (slot : Option Talk) (before after : History) (came wanting wanting_new : ℕ) → place < length places → Stays place came wanting wanting_new before after → FitAll places before
    → Fits slot (course after place) → FitAll (set places place slot) after
set_fits places place slot before after came wanting wanting_new inside stays fit fits = λ other. by_place other (other == place) refl
  where
    by_place : (other : ℕ) (here : Bool) → (other == place) ≡ here → Fits (get_or (set places place slot) other None) (course after other)
    by_place other true is =
        let same : other ≡ place = eqb-true other place is in
        subst (λ (n : ℕ). Fits (get_or (set places place slot) n None) (course after n)) (sym same)
        (subst (λ (kept : Option Talk). Fits kept (course after place)) (sym (get_or-set_same places place slot None inside)) fits)
    by_place other false is =
        let differs : other ≢ place = eqb-false other place is in
        subst (λ (kept : Option Talk). Fits kept (course after other)) (sym (get_or-set_other places place other slot None differs))
        (subst (λ (there : Option Course). Fits (get_or places other None) there) (sym (stays.others other differs)) (fit other))

-- what is so of a connection and of what happened at its place stays so, while another has its turn
there_stays : (before after : History) (other : ℕ) (P Q : Course → Type 0) → course after other ≡ course before other → ((of : Course) → P of → Q of) → IfThere (course before other) P
    → IfThere (course after other) Q
there_stays before after other P Q same so is = subst (λ (there : Option Course). IfThere there Q) (sym same) (over (course before other) is)
  where
    over : (there : Option Course) → IfThere there P → IfThere there Q
    over None is = tt
    over (Some of) is = so of is

abbrev pub Attended : ℕ → History → Type 0
Attended place acts = IfThere (course acts place) (IsAttended acts place)

abbrev pub Served : ℕ → ℕ → History → Type 0
Served idle place acts = IfThere (course acts place) (IsServed idle acts place)

-- the places below have had their turn
abbrev pub Below : (ℕ → History → Type 0) → ℕ → History → Type 0
Below P size acts = (place : ℕ) → place < size → P place acts

pub more_attended : (place came wanting wanting_new : ℕ) (before after : History) → Stays place came wanting wanting_new before after → Below Attended place before → Attended place after → Below Attended (place + 1) after
more_attended place came wanting wanting_new before after stays below here =
    below_more (λ other. Attended other after) place
    (λ other less. there_stays before after other (IsAttended before other) (IsAttended after other) (stays.others other (λ same. absurd (omega arith))) (on other) (below other less)) here
  where
    on : (other : ℕ) (of : Course) → IsAttended before other of → IsAttended after other of
    on other of (inl full) = inl full
    on other of (inr (heard, inl gone)) = inr (heard, inl gone)
    on other of (inr (heard, inr found)) = inr (heard, inr (stays.lasts.turns gives_turn other found))

pub more_served : (idle place came wanting wanting_new : ℕ) (before after : History) → Stays place came wanting wanting_new before after → Below (Served idle) place before → Served idle place after → Below (Served idle) (place + 1) after
more_served idle place came wanting wanting_new before after stays below here =
    below_more (λ other. Served idle other after) place
    (λ other less. there_stays before after other (IsServed idle before other) (IsServed idle after other) (stays.others other (λ same. absurd (omega arith))) (on other) (below other less)) here
  where
    told : (other : ℕ) (of : Course) → IsTaken of ⊎ InRound offers before other → IsTaken of ⊎ InRound offers after other
    told other of (inl all) = inl all
    told other of (inr found) = inr (stays.lasts.turns offers other found)

    back : (of : Course) (why : Ending) → IsReason idle after why of → IsReason idle before why of
    back of Done reason = reason
    back of Fault reason = reason
    back of Idle (fine, may, since, is, late) = (fine, may, since, is, subst (λ (now : ℕ). since + idle ≤ now) stays.same_clock late)
    back of Stopped (fine, since, is, all) = (fine, since, sym stays.same_stop ∙ is, subst (λ (now : ℕ). IsTaken of ⊎ (since + LAST_MILLISECONDS ≤ now)) stays.same_clock all)
    back of Unsynced (fine, unsynced, some) = (fine, sym stays.same_stage ∙ unsynced, some)
    back of Memory reason = reason
    back of Refused reason = reason

    on : (other : ℕ) (of : Course) → IsServed idle before other of → IsServed idle after other of
    on other of (is, not_due) = (told other of is, λ why reason. not_due why (back of why reason))

-- what was not asked before, and at this place was not, is not asked
pub unread_all : (place came wanting wanting_new : ℕ) (before after : History) → Stays place came wanting wanting_new before after → AreUnread before → IsUnread place after → AreUnread after
unread_all place came wanting wanting_new before after stays unread none = λ other. by_place other (other == place) refl
  where
    by_place : (other : ℕ) (here : Bool) → (other == place) ≡ here → IsUnread other after
    by_place other true is = subst (λ (n : ℕ). IsUnread n after) (sym (eqb-true other place is)) none
    by_place other false is = stays.unread other (eqb-false other place is) (unread other)

pub more_used : (place came wanting wanting_new : ℕ) (before after : History) → Stays place came wanting wanting_new before after → AreUsed place before → IsUsed after place → AreUsed (place + 1) after
more_used place came wanting wanting_new before after stays below here = below_more (λ other. IsUsed after other) place (λ other less. stays.lasts.used other (below other less)) here

-- the places from one on were not asked
abbrev pub UnreadFrom : ℕ → History → Type 0
UnreadFrom place acts = (other : ℕ) → place ≤ other → IsUnread other acts

pub more_heard : (place came wanting wanting_new : ℕ) (is_busy is_busy_new : Bool) (before after : History) → Stays place came wanting wanting_new before after → Below Attended place before × UnreadFrom place before × IsKnownBusy is_busy before
    → Attended place after × IsKnownBusy is_busy_new after → Below Attended (place + 1) after × UnreadFrom (place + 1) after × IsKnownBusy is_busy_new after
more_heard place came wanting wanting_new is_busy is_busy_new before after stays (below, unread, busy) (here, busy_new) =
    (more_attended place came wanting wanting_new before after stays below here, λ other past. stays.unread other (λ same. absurd (omega arith)) (unread other (omega arith)), busy_new)

pub more_taken : (place came wanting wanting_new : ℕ) (is_busy is_busy_new : Bool) (before after : History) → Stays place came wanting wanting_new before after → AreUsed place before × AreUnread before × IsKnownBusy is_busy before
    → IsUsed after place × IsUnread place after × IsKnownBusy is_busy_new after → AreUsed (place + 1) after × AreUnread after × IsKnownBusy is_busy_new after
more_taken place came wanting wanting_new is_busy is_busy_new before after stays (below, unread, busy) (used, none, busy_new) = (more_used place came wanting wanting_new before after stays below used, unread_all place came wanting wanting_new before after stays unread none, busy_new)

-- the connections of a round are heard, once none more are taken and each had its turn
pub are_heard : (count size left places wanting wanting_new : ℕ) (taken heard : History) → StaysInRound places 0 0 wanting wanting_new taken heard → comers taken + left ≡ most_comers count
    → IsStopped taken ⊎ NoneOrdered taken → IsStopped taken ⊎ (left ≡ 0) ⊎ NoneWaited taken ⊎ AreUsed size taken → IsStopped heard ⊎ AreAttended heard → AreHeard count size heard
are_heard count size left places wanting wanting_new taken heard passes most asked took turns = (may_come took, may_hear asked turns)
  where
    may_hear : IsStopped taken ⊎ NoneOrdered taken → IsStopped heard ⊎ AreAttended heard → IsStopped heard ⊎ (NoneOrdered heard × AreAttended heard)
    may_hear asked (inl stop) = inl stop
    may_hear (inl (since, order)) (inr all) = inl (since, passes.same_stop ∙ order)
    may_hear (inr none) (inr all) = inr (passes.lasts.none_ordered none, all)

    may_come : IsStopped taken ⊎ (left ≡ 0) ⊎ NoneWaited taken ⊎ AreUsed size taken → IsClosing count heard ⊎ NoneWaited heard ⊎ AreUsed size heard
    may_come (inl (since, order)) = inl (inl (since, passes.same_stop ∙ order))
    may_come (inr (inl none)) =
        let same : comers heard + 0 ≡ comers taken + 0 = passes.fewer_left in
        let m : comers taken + left ≡ most_comers count = most in
        inl (inr (omega arith))
    may_come (inr (inr (inl none))) = inr (inl (passes.lasts.none_waited none))
    may_come (inr (inr (inr used))) = inr (inr (λ place less. passes.lasts.used place (used place less)))

-- whether to stop stays asked
pub asked_on : (size left left_new wanting wanting_new : ℕ) (before after : History) → StaysInRound size left left_new wanting wanting_new before after → IsStopped before ⊎ NoneOrdered before → IsStopped after ⊎ NoneOrdered after
asked_on size left left_new wanting wanting_new before after passes (inl (since, order)) = inl (since, passes.same_stop ∙ order)
asked_on size left left_new wanting wanting_new before after passes (inr none) = inr (passes.lasts.none_ordered none)

pub telling : (kept : Bool) → Telling kept ≢ Hearing
telling kept same = cc

-- ---- what is left to be done

some_time : (since : ℕ) → Some since ≢ None
some_time since same = cc

free_fits : (slot : Option Talk) (there : Option Course) → Fits slot there → there ≡ None → slot ≡ None
free_fits None there fits none = refl
free_fits (Some talk) None fits none = absurd fits
free_fits (Some talk) (Some of) fits none = absurd (some_there of none)

-- a connection may come, or one is there
abbrev pub MayGoOn : ℕ → Option ℕ → List (Option Talk) → Type 0
MayGoOn left stop places = ¬ (((left ≡ 0) ⊎ (stop ≢ None)) × ((place : ℕ) → get_or places place None ≡ None))

pub not_finished : (count left : ℕ) (stop : Option ℕ) (acts : History) (places : List (Option Talk)) → stopped acts ≡ stop → FitAll places acts → comers acts + left ≡ most_comers count
    → MayGoOn left stop places → ¬ IsFinished count acts
not_finished count left stop acts places order fit most goes finished = goes (by_closing finished.1, λ place. free_fits (get_or places place None) (course acts place) (fit place) (finished.0 place))
  where
    by_closing : IsClosing count acts → (left ≡ 0) ⊎ (stop ≢ None)
    by_closing (inl (since, is)) = inr (λ (none : stop ≡ None). some_time since (sym is ∙ order ∙ none))
    by_closing (inr all) = inl (let m : comers acts + left ≡ most_comers count = most in omega arith)

most_some : (count : ℕ) → most_comers count ≢ 0
most_some zero none = absurd (omega arith)
most_some (suc count) none = absurd (omega arith)

-- before the first round
pub may_begin : (count left : ℕ) (stop : Option ℕ) (places : List (Option Talk)) → left ≡ most_comers count → stop ≡ None → MayGoOn left stop places
may_begin count left stop places most order finished = by_closing finished.0
  where
    by_closing : (left ≡ 0) ⊎ (stop ≢ None) → ⊥
    by_closing (inl none) = most_some count (sym most ∙ none)
    by_closing (inr some) = some order

-- behind the last place there is no connection
pub all_there : (places : List (Option Talk)) (acts : History) (P : ℕ → Course → Type 0) → FitAll places acts → ((place : ℕ) → place < length places → IfThere (course acts place) (P place))
    → (place : ℕ) → IfThere (course acts place) (P place)
all_there places acts P fit below place = by_size (cases_lt place (length places))
  where
    by_size : (place < length places) ⊎ (length places ≤ place) → IfThere (course acts place) (P place)
    by_size (inl less) = below place less
    by_size (inr past) =
        let none : course acts place ≡ None = fits_none (course acts place) (subst (λ (slot : Option Talk). Fits slot (course acts place)) (get_or_past places place None past) (fit place)) in
        subst (λ (there : Option Course). IfThere there (P place)) (sym none) tt

-- ---- what is counted in a round

pub all_lost : (acts begun taken heard told none one two last : ℕ) → begun ≡ acts → none ≡ 0 → taken + none ≡ begun + one → heard + one ≡ taken + two → told + two ≡ heard + last → told ≡ acts + last
all_lost acts begun taken heard told none one two last same no_loss in_taking in_hearing in_telling = omega arith

pub few_taken : (acts begun taken before left most : ℕ) → begun ≡ acts → acts + before ≡ most → taken + left ≡ begun + before → taken + left ≡ most
few_taken acts begun taken before left most same all fewer = omega arith

pub few_told : (taken heard told left most : ℕ) → taken + left ≡ most → heard + 0 ≡ taken + 0 → told + 0 ≡ heard + 0 → told + left ≡ most
few_told taken heard told left most all one two = omega arith

-- ---- for how long the next round may wait

-- at most so long, and no longer than something else allows
abbrev pub Caps : (ℕ → ℕ) → Type 0
Caps cap = (longest most : ℕ) → (most ≤ cap longest) ↔ ((most ≤ longest) × (most ≤ cap most))

caps_none : Caps (λ most. most)
caps_none longest most = (λ few. (few, omega arith), λ both. both.0)

caps_min : (left : ℕ) → Caps (λ most. min most left)
caps_min left longest most = (
  λ few.
      let one : min longest left ≤ longest = min-le_left longest left in
      let other : min longest left ≤ left = min-le_right longest left in
      (omega arith, le-min (omega arith) (omega arith)),
  λ both. let other : min most left ≤ left = min-le_right most left in le-min both.0 (omega arith),
)

caps_both : (one other : ℕ → ℕ) → Caps one → Caps other → Caps (λ most. other (one most))
caps_both one other first second longest most = (
  λ few.
      let a = (second (one longest) most).0 few in
      let b = (first longest most).0 a.0 in
      (b.0, (second (one most) most).1 (b.1, a.1)),
  λ both.
      let a = (second (one most) most).0 both.1 in
      (second (one longest) most).1 ((first longest most).1 (both.0, a.0), a.1),
)

caps_stopped : (now : ℕ) (stop : Option ℕ) → Caps (until_stopped now stop)
caps_stopped now None = caps_none
caps_stopped now (Some since) = caps_min (LAST_MILLISECONDS - (now - since))

caps_idle : (now idle : ℕ) (idle_since : Option ℕ) → Caps (until_idle now idle idle_since)
caps_idle now idle None = caps_none
caps_idle now idle (Some since) = by_test (idle == 0)
  where
    by_test : (never : Bool) → Caps (λ most. if never then most else min most (idle - (now - since)))
    by_test true = caps_none
    by_test false = caps_min (idle - (now - since))

pub caps_due : (now idle : ℕ) (stop idle_since : Option ℕ) → Caps (until_due now idle stop idle_since)
caps_due now idle stop idle_since = caps_both (until_stopped now stop) (until_idle now idle idle_since) (caps_stopped now stop) (caps_idle now idle idle_since)

-- one place more
pub more_paused : (idle place came wanting wanting_new longest pause pause_new : ℕ) (is_busy is_busy_new : Bool) (before after : History) → Stays place came wanting wanting_new before after → KnowsPause idle place longest is_busy pause before
    → KnowsPauseAt idle place is_busy pause is_busy_new pause_new after → KnowsPause idle (place + 1) longest is_busy_new pause_new after
more_paused idle place came wanting wanting_new longest pause pause_new is_busy is_busy_new before after stays known here = (
  here.0,
  λ free most.
      let so_far = known.1 (here.1 free).0 most in
      let one = (here.1 free).1 most in (
        λ few.
            let a = one.0 few in
            let b = so_far.0 a.0 in
            (b.0, below_more (λ other. IfThere (course after other) (MayStay idle after most)) place (λ other less. there_stays before after other (MayStay idle before most) (MayStay idle after most) (stays.others other (λ same. absurd (omega arith))) (on most) (b.1 other less)) a.1),
        λ both.
            one.1 (
              so_far.1 (both.0, λ other less. there_stays after before other (MayStay idle after most) (MayStay idle before most) (sym (stays.others other (λ same. absurd (omega arith)))) (back most) (both.1 other (omega arith))),
              both.1 place (omega arith),
            ),
      ),
)
  where
    on : (most : ℕ) (of : Course) → MayStay idle before most of → MayStay idle after most of
    on most of stay = rw (stays.same_clock, stays.same_stop) stay

    back : (most : ℕ) (of : Course) → MayStay idle after most of → MayStay idle before most of
    back most of stay = rw (stays.same_clock, stays.same_stop) at stay

pub more_told : (idle place came wanting wanting_new longest pause pause_new : ℕ) (is_busy is_busy_new : Bool) (before after : History) → Stays place came wanting wanting_new before after
    → Below (Served idle) place before × KnowsPause idle place longest is_busy pause before → Served idle place after × KnowsPauseAt idle place is_busy pause is_busy_new pause_new after
    → Below (Served idle) (place + 1) after × KnowsPause idle (place + 1) longest is_busy_new pause_new after
more_told idle place came wanting wanting_new longest pause pause_new is_busy is_busy_new before after stays (below, known) (here, paused) =
    (more_served idle place came wanting wanting_new before after stays below here, more_paused idle place came wanting wanting_new longest pause pause_new is_busy is_busy_new before after stays known paused)

-- what is known of the place of a connection that was told
pub pause_told : (idle place now : ℕ) (stop : Option ℕ) (pause pause_new : ℕ) (is_busy is_busy_new : Bool) (acts : History) (talk : Talk) → clock acts ≡ now → stopped acts ≡ stop → Here (course acts place) (KeepsTalk talk)
    → IsKnownBusy is_busy_new acts → (is_busy_new ≡ false → is_busy ≡ false) → pause_new ≡ until_due now idle stop talk.idle_since pause → KnowsPauseAt idle place is_busy pause is_busy_new pause_new acts
pause_told idle place now stop pause pause_new is_busy is_busy_new acts talk time order here busy free_before is = (busy, λ free. (free_before free, by_there (course acts place) here))
  where
    by_there : (there : Option Course) → Here there (KeepsTalk talk) → (most : ℕ) → (most ≤ pause_new) ↔ ((most ≤ pause) × IfThere there (MayStay idle acts most))
    by_there None here most = absurd here
    by_there (Some of) keeps most = rw (is, time, order, keeps.last) (caps_due now idle stop talk.idle_since pause most)

-- once something was done, nothing else is known
pub pause_busy : (idle place pause pause_new : ℕ) (is_busy : Bool) (acts : History) → IsKnownBusy true acts → KnowsPauseAt idle place is_busy pause true pause_new acts
pause_busy idle place pause pause_new is_busy acts busy = (busy, λ free. absurd (false≢true (sym free)))

-- what is known of all places is known of the next round
pub paused : (idle longest pause : ℕ) (is_busy : Bool) (places : List (Option Talk)) (acts : History) → FitAll places acts → longest ≡ LONGEST_WAIT → KnowsPause idle (length places) longest is_busy pause acts → IsPause idle acts (pause_of is_busy pause)
paused idle longest pause true places acts fit same known = (λ so. refl, λ none. absurd (false≢true (sym none ∙ known.0)))
paused idle longest pause false places acts fit same known = (
  λ so. absurd (false≢true (sym known.0 ∙ so)),
  λ none most. (
    λ few. let all = (known.1 refl most).0 few in (subst (λ (n : ℕ). most ≤ n) same all.0, all_there places acts (λ place. MayStay idle acts most) fit all.1),
    λ may. (known.1 refl most).1 (subst (λ (n : ℕ). most ≤ n) (sym same) may.0, λ place less. may.1 place),
  ),
)

-- ---- how a round begins

-- the places so far fit what rested, and the others are as they were
abbrev pub RestedTo : ℕ → ℕ → List (Option Talk) → List (Option Talk) → Type 0
RestedTo now place old new = (other : ℕ) → (other < place → (there : Option Course) → Fits (get_or old other None) there → Fits (get_or new other None) (rested now there))
    × (place ≤ other → get_or new other None ≡ get_or old other None)

begins_at : (acts : History) (pause now : ℕ) → Begins now acts (At pause now ∷ acts)
begins_at acts pause now = record {
  hearing = refl;
  time = refl;
  same_comers = refl;
  more_rounds = refl;
  same_losses = refl;
  unread = λ place found. found;
  quiet = refl;
  inside = λ size inside. inside;
  fair = λ idle count size fair whole more. (whole, more, fair);
  same_sync = refl;
  unkept = λ is_unkept told. told;
}

begins_ordered : (acts : History) (pause now : ℕ) → Begins now acts (Ordered ∷ At pause now ∷ acts)
begins_ordered acts pause now = record {
  hearing = refl;
  time = refl;
  same_comers = refl;
  more_rounds = refl;
  same_losses = refl;
  unread = λ place found. found;
  quiet = refl;
  inside = λ size inside. inside;
  fair = λ idle count size fair whole more. (whole, more, fair);
  same_sync = refl;
  unkept = λ is_unkept told. told;
}

begins_on : (acts : History) (pause now : ℕ) → Begins now acts (GoesOn ∷ At pause now ∷ acts)
begins_on acts pause now = record {
  hearing = refl;
  time = refl;
  same_comers = refl;
  more_rounds = refl;
  same_losses = refl;
  unread = λ place found. found;
  quiet = refl;
  inside = λ size inside. inside;
  fair = λ idle count size fair whole more. (whole, more, fair);
  same_sync = refl;
  unkept = λ is_unkept told. told;
}

-- the round has begun, whether a stop is ordered or not
pub begun : (acts : History) (pause now : ℕ) (after : History) (places : List (Option Talk)) → MayOrder (At pause now ∷ acts) after → FitAll places (At pause now ∷ acts) → Begins now acts after × FitAll places after
begun acts pause now after places (inl same) fit = subst (λ (h : History). Begins now acts h × FitAll places h) (sym same) (begins_at acts pause now, fit)
begun acts pause now after places (inr (inl same)) fit = subst (λ (h : History). Begins now acts h × FitAll places h) (sym same) (begins_ordered acts pause now, fit)
begun acts pause now after places (inr (inr same)) fit = subst (λ (h : History). Begins now acts h × FitAll places h) (sym same) (begins_on acts pause now, fit)

module _ {S : Type 0} (opens : S → ℕ → S → Type 0) (refuses : S → ℕ → SessionFault → Type 0) (hears : S → ℕ → List ℕ → List ℕ → S → Type 0) (misses : S → ℕ → List ℕ → SessionFault → S → Type 0) (ends : S → ℕ → S → Type 0) where
  module _ {C : Type 0} (has : C → History → Type 0) where
    -- ---- places, one after another

    module _ (when : Stage) (idle now : ℕ) (stop : Option ℕ) where
      -- one place more; what was so of the round, and is so of this place, leads to what is then so
      pub toured : (left middle left_new came wanting wanting_then wanting_new place : ℕ) (Ready ReadyThere Before There After : History → Type 0) (connections between connections_new : C) (old new latest : S)
          (places places_new : List (Option Talk)) (item slot : Option Talk) → middle ≡ left_new + came → place < length places_new → length places_new ≡ length places → item ≡ get_or places_new place item
          → ((acts : History) → Before acts → ReadyThere acts) → ((before after : History) → Stays place came wanting_then wanting_new before after → Before before → There after → After after)
          → Tours opens refuses hears misses ends has when idle now stop left middle wanting wanting_then Ready Before connections old places between new places_new
          → ServesPlace opens refuses hears misses ends has when idle now stop place came wanting_then wanting_new ReadyThere There between new (get_or places_new place item) connections_new latest slot
          → Tours opens refuses hears misses ends has when idle now stop left left_new wanting wanting_new Ready After connections old places connections_new latest (set places_new place slot)
      toured left middle left_new came wanting wanting_then wanting_new place Ready ReadyThere Before There After connections between connections_new old new latest places places_new item slot fewer inside same_size is ready leads tours serves =
          λ start acts known at time order is_ready fit.
          let a = tours start acts known at time order is_ready fit in
          let b = serves start a.0 a.2 (a.1.same_stage ∙ at) (a.1.same_clock ∙ time) (a.1.same_stop ∙ order) (ready a.0 a.4)
          (subst (λ (kept : Option Talk). Fits kept (course a.0 place)) (sym (get_or_read places_new place item inside is None) ∙ is) (a.3 place)) in
          let one : comers a.0 + middle ≡ comers acts + left = a.1.fewer_left in
          let two : comers b.0 ≡ comers a.0 + came = b.1.more_came in
          let lost : losses a.0 + wanting ≡ losses acts + wanting_then = a.1.more_lost in
          let more : losses b.0 + wanting_then ≡ losses a.0 + wanting_new = b.1.more_lost in (
            b.0,
            record {
              same_clock = b.1.same_clock ∙ a.1.same_clock;
              same_stage = b.1.same_stage ∙ a.1.same_stage;
              same_stop = b.1.same_stop ∙ a.1.same_stop;
              same_rounds = b.1.same_rounds ∙ a.1.same_rounds;
              lasts = lasts_both acts a.0 b.0 a.1.lasts b.1.lasts;
              fewer_left = omega arith;
              more_lost = omega arith;
              inside = λ all. b.1.inside (length places) (subst (λ (n : ℕ). place < n) same_size inside) (a.1.inside all);
            },
            b.2,
            set_fits places_new place slot a.0 b.0 came wanting_then wanting_new inside b.1 a.3 b.3,
            leads a.0 b.0 b.1 a.4 b.4,
          )

      -- the same tour, of which less or other things are said
      pub toured_so : (left left_new wanting wanting_new : ℕ) (Ready Before After : History → Type 0) (connections connections_new : C) (old new : S) (places places_new : List (Option Talk))
          → ((acts : History) → FitAll places_new acts → Before acts → After acts)
          → Tours opens refuses hears misses ends has when idle now stop left left_new wanting wanting_new Ready Before connections old places connections_new new places_new
          → Tours opens refuses hears misses ends has when idle now stop left left_new wanting wanting_new Ready After connections old places connections_new new places_new
      toured_so left left_new wanting wanting_new Ready Before After connections connections_new old new places places_new so tours = λ start acts known at time order ready fit.
          let a = tours start acts known at time order ready fit in (a.0, a.1, a.2, a.3, so a.0 a.3 a.4)

      -- no place yet
      pub toured_none : (left wanting : ℕ) (Ready None_yet : History → Type 0) (connections : C) (old : S) (places : List (Option Talk)) → ((acts : History) → Ready acts → None_yet acts)
          → Tours opens refuses hears misses ends has when idle now stop left left wanting wanting Ready None_yet connections old places connections old places
      toured_none left wanting Ready None_yet connections old places so = λ start acts known at time order ready fit. (
        acts,
        record { same_clock = refl; same_stage = refl; same_stop = refl; same_rounds = refl; lasts = lasts_none acts; fewer_left = refl; more_lost = refl; inside = λ all. all },
        known,
        fit,
        so acts ready,
      )

    -- ---- the parts of a round

    pub one_round : (idle now left left_new pause none one two last longest pause_told : ℕ) (stop stop_new : Option ℕ) (kept busy_taken busy_heard busy_told : Bool) (connections waited taken heard synced told : C) (old took hearing new : S)
        (places rested places_taken places_heard places_told : List (Option Talk)) → length rested ≡ length places → length places_taken ≡ length rested → length places_heard ≡ length places_taken → length places_told ≡ length places_heard → none ≡ 0 → longest ≡ LONGEST_WAIT
        → ((start : S) (acts : History) → Has opens refuses hears misses ends has idle start connections old acts → stopped acts ≡ stop → FitAll places acts → IsPause idle acts pause
        → (after : History) × Has opens refuses hears misses ends has idle start waited old after × Begins now acts after × FitAll rested after × (stopped after ≡ stop_new) × (IsStopped after ⊎ NoneOrdered after))
        → Tours opens refuses hears misses ends has Hearing idle now stop_new left left_new none one (λ before. AreUnread before × IsKnownBusy false before) (λ after. (IsStopped after ⊎ (left_new ≡ 0) ⊎ NoneWaited after ⊎ AreUsed (length rested) after) × AreUnread after × IsKnownBusy busy_taken after) waited old rested taken took places_taken
        → Tours opens refuses hears misses ends has Hearing idle now stop_new 0 0 one two (λ before. AreUnread before × IsKnownBusy busy_taken before) (λ after. (IsStopped after ⊎ AreAttended after) × IsKnownBusy busy_heard after) taken took places_taken heard hearing places_heard
        → ((start : S) (acts : History) → Leads opens refuses hears misses ends start acts hearing → has heard acts → has synced (Syncs kept ∷ acts))
        → Tours opens refuses hears misses ends has (Telling kept) idle now stop_new 0 0 two last (IsKnownBusy busy_heard) (λ after. AreServed idle after × KnowsPause idle (length places_heard) longest busy_told pause_told after) synced hearing places_heard told new places_told
        → Turns opens refuses hears misses ends has idle stop left pause connections old places stop_new left_new (pause_of busy_told pause_told) last kept told new places_told
    one_round idle now left left_new pause none one two last longest pause_told stop stop_new kept busy_taken busy_heard busy_told connections waited taken heard synced told old took hearing new places rested places_taken places_heard places_told size_r size_t size_h size_w no_loss most begins takes hears_all syncs tells =
        λ count start acts known order fit whole more.
        let a = begins start acts known order fit whole.4 in
        let t = takes start a.0 a.1 a.2.hearing a.2.time a.4 (a.2.unread, a.2.quiet) a.3 in
        let h = hears_all start t.0 t.2 (t.1.same_stage ∙ a.2.hearing) (t.1.same_clock ∙ a.2.time) (t.1.same_stop ∙ a.4) (t.4.1, t.4.2) t.3 in
        let w = tells start (Syncs kept ∷ h.0) (syncs start h.0 h.2.1 h.2.0, h.2.1, (h.1.same_stage ∙ t.1.same_stage ∙ a.2.hearing, h.2.2)) refl (h.1.same_clock ∙ t.1.same_clock ∙ a.2.time) (h.1.same_stop ∙ t.1.same_stop ∙ a.4) h.4.1 h.3 in
        let lost : losses w.0 ≡ losses acts + last = all_lost (losses acts) (losses a.0) (losses t.0) (losses h.0) (losses w.0) none one two last a.2.same_losses no_loss t.1.more_lost h.1.more_lost w.1.more_lost in
        let left_taken : comers t.0 + left_new ≡ most_comers count = few_taken (comers acts) (comers a.0) (comers t.0) left left_new (most_comers count) a.2.same_comers whole.0 t.1.fewer_left in
        let left_told : comers w.0 + left_new ≡ most_comers count = few_told (comers t.0) (comers h.0) (comers w.0) left_new (most_comers count) left_taken h.1.fewer_left w.1.fewer_left in
        let size : ℕ = length places in
        let fair : IsFair idle count size h.0 = h.1.lasts.fair idle count size (t.1.lasts.fair idle count size (a.2.fair idle count size whole.1 whole.2 more)) in
        let asked : IsStopped t.0 ⊎ NoneOrdered t.0 = asked_on (length rested) left left_new none one a.0 t.0 t.1 a.5 in
        let all_heard : AreHeard count size h.0 = subst (λ (n : ℕ). AreHeard count n h.0) size_r (are_heard count (length rested) left_new (length places_taken) one two t.0 h.0 h.1 left_taken asked t.4.0 h.4.0) in
        let in_taken : AreInside (length places_taken) t.0 = subst (λ (n : ℕ). AreInside n t.0) (sym size_t) (t.1.inside (subst (λ (n : ℕ). AreInside n a.0) (sym size_r) (a.2.inside size whole.3))) in
        let in_heard : AreInside (length places_heard) h.0 = subst (λ (n : ℕ). AreInside n h.0) (sym size_h) (h.1.inside in_taken) in
        let in_told : AreInside size w.0 = subst (λ (n : ℕ). AreInside n w.0) (size_h ∙ size_t ∙ size_r) (w.1.inside in_heard) in
        let knows : KnowsPause idle (length places_told) longest busy_told pause_told w.0 = subst (λ (n : ℕ). KnowsPause idle n longest busy_told pause_told w.0) (sym size_w) w.4.1 in
        let rests : IsPause idle w.0 (pause_of busy_told pause_told) = paused idle longest pause_told busy_told places_told w.0 w.3 most knows in
        let over : stage w.0 ≢ Hearing = λ same. telling kept (sym w.1.same_stage ∙ same) in (
          w.0,
          w.2,
          w.1.same_stop ∙ h.1.same_stop ∙ t.1.same_stop ∙ a.4,
          w.3,
          w.1.same_rounds ∙ h.1.same_rounds ∙ t.1.same_rounds ∙ a.2.more_rounds,
          lost,
          (left_told, w.1.lasts.fair idle count size (all_heard, fair), (over, w.4.0), in_told, rests),
          w.1.lasts.same_sync ∙ ap (λ (u : Bool). if kept then u else true) (h.1.lasts.same_sync ∙ t.1.lasts.same_sync ∙ a.2.same_sync),
          λ is_unkept told. w.1.lasts.unkept is_unkept (h.1.lasts.unkept is_unkept (t.1.lasts.unkept is_unkept (a.2.unkept is_unkept told))),
        )

    -- ---- rounds, one after another

    -- by the test of a reply that says that something could not be kept, and that of sessions of which one was answered so
    module _ (is_unkept : List ℕ → Bool) (any_unkept : S → Bool) (every : ℕ) where
      -- how the loop stands after so many rounds, when so many more connections may be taken, what it wrote, and whether it
      -- told what could not be kept
      abbrev pub Stands : ℕ → ℕ → ℕ → S → Option (List ℕ) → Option (List ℕ) → Bool → C → S → List (Option Talk) → Option ℕ → ℕ → ℕ → ℕ → Type 0
      Stands idle count size start written errors told connections sessions places stop left pause turns = (acts : History) × Has opens refuses hears misses ends has idle start connections sessions acts
          × (stopped acts ≡ stop) × FitAll places acts × (rounds acts ≡ turns) × TellsLines every told (losses acts) written errors × (told ≡ (has_unkept is_unkept acts || any_unkept start)) × HasWholeRounds idle count size left pause acts

      -- one round more
      pub turned : (idle idle_now count size left left_new pause pause_new turns wanting : ℕ) (stop stop_new : Option ℕ) (kept told told_new : Bool) (connections connections_new : C) (sessions new : S) (places places_new : List (Option Talk))
          → idle_now ≡ idle → length places ≡ size → MayGoOn left stop places → (start : S) (written errors errors_new : Option (List ℕ)) → Stands idle count size start written errors told connections sessions places stop left pause turns
          → ((start : S) (acts : History) (after : S) → Leads opens refuses hears misses ends start acts after → any_unkept after ≡ (answered_unkept is_unkept acts || any_unkept start))
          → ((count : ℕ) (old : Option (List ℕ)) → TellsLines every told count old errors → TellsLines every told_new (count + wanting) old errors_new) → told_new ≡ (told || (if kept then any_unkept new else true))
          → Turns opens refuses hears misses ends has idle_now stop left pause connections sessions places stop_new left_new pause_new wanting kept connections_new new places_new
          → Stands idle count size start written errors_new told_new connections_new new places_new stop_new left_new pause_new (turns + 1)
      turned idle idle_now count size left left_new pause pause_new turns wanting stop stop_new kept told told_new connections connections_new sessions new places places_new same_idle same_size goes start written errors errors_new (acts, known, order, fit, began, lines, is_told, whole) follows more told_now one =
          let turns_now = subst (λ (i : ℕ). Turns opens refuses hears misses ends has i stop left pause connections sessions places stop_new left_new pause_new wanting kept connections_new new places_new) same_idle one in
          let t = turns_now count start acts known order fit (subst (λ (n : ℕ). HasWholeRounds idle count n left pause acts) (sym same_size) whole)
          (not_finished count left stop acts places order fit whole.0 goes) in
          let round : rounds t.0 ≡ rounds acts + 1 = t.4 in
          let lost : losses t.0 ≡ losses acts + wanting = t.5 in (
            t.0,
            t.1,
            t.2,
            t.3,
            round ∙ ap (λ (n : ℕ). n + 1) began,
            subst (λ (n : ℕ). TellsLines every told_new n written errors_new) (sym lost) (more (losses acts) written lines),
            told_on kept (unsynced acts) (answered_unkept is_unkept acts) (any_unkept start) told (unsynced t.0) (answered_unkept is_unkept t.0) (any_unkept new) told_new is_told t.7 (t.8 is_unkept) (follows start t.0 new t.1.1) told_now,
            subst (λ (n : ℕ). HasWholeRounds idle count n left_new pause_new t.0) same_size t.6,
          )

      -- what is so when the loop ends
      abbrev pub EndsWell : ℕ → ℕ → ℕ → S → Option (List ℕ) → Option (List ℕ) → C → S → Type 0
      EndsWell idle count size start written errors connections sessions = (acts : History) × Has opens refuses hears misses ends has idle start connections sessions acts × AreWithin count acts × HasEnded count acts
          × IsFair idle count size acts × IsWhole idle acts × AreInside size acts × TellsAll is_unkept every (any_unkept start) acts written errors

      closing : (count left : ℕ) (stop : Option ℕ) (acts : History) → stopped acts ≡ stop → comers acts + left ≡ most_comers count → (left ≡ 0) ⊎ (stop ≢ None) → IsClosing count acts
      closing count left stop acts order most (inl none) = inr (let m : comers acts + left ≡ most_comers count = most in omega arith)
      closing count left None acts order most (inr some) = absurd (some refl)
      closing count left (Some since) acts order most (inr some) = inl (since, order)

      pub ended : (idle count size left pause turns : ℕ) (stop : Option ℕ) (start : S) (written errors : Option (List ℕ)) (told : Bool) (connections : C) (sessions : S) (places : List (Option Talk))
          → Stands idle count size start written errors told connections sessions places stop left pause turns → (left ≡ 0) ⊎ (stop ≢ None) → ((place : ℕ) → get_or places place None ≡ None)
          → EndsWell idle count size start written errors connections sessions
      ended idle count size left pause turns stop start written errors told connections sessions places (acts, known, order, fit, began, lines, is_told, whole) closes free = (
        acts,
        known,
        let m : comers acts + left ≡ most_comers count = whole.0 in omega arith,
        inl ((λ place. fits_none (course acts place) (subst (λ (slot : Option Talk). Fits slot (course acts place)) (free place) (fit place))), closing count left stop acts order whole.0 closes),
        whole.1,
        whole.2,
        whole.3,
        subst (λ (b : Bool). TellsLines every b (losses acts) written errors) is_told lines,
      )

      pub ended_late : (idle count size left pause turns : ℕ) (stop : Option ℕ) (start : S) (written errors : Option (List ℕ)) (told : Bool) (connections : C) (sessions : S) (places : List (Option Talk))
          → Stands idle count size start written errors told connections sessions places stop left pause turns → turns ≡ 2 ^ 64 - 1 → EndsWell idle count size start written errors connections sessions
      ended_late idle count size left pause turns stop start written errors told connections sessions places (acts, known, order, fit, began, lines, is_told, whole) last = (
        acts,
        known,
        let m : comers acts + left ≡ most_comers count = whole.0 in omega arith,
        inr (began ∙ last),
        whole.1,
        whole.2,
        whole.3,
        subst (λ (b : Bool). TellsLines every b (losses acts) written errors) is_told lines,
      )
