-- What the loop keeps of a place, and the history that it stands for.
use Rattle.std.specs.Prelude.{◌≡◌, ◌≢◌, ◌⊎◌, ◌↔◌, ◌+◌, ◌||◌, ◌<◌, ◌≤◌, ℕ, List, [], ◌∷◌, ◌++◌, Bool, true, false, Option, Some, None, Result, Ok, Err, IfOk, drop, get_or, if◌then◌else◌, length, ⊤}
use Rattle.connections.specs.declared.ending.Ending.{Ending}
use Rattle.connections.specs.declared.ending.Ending.TheVariants.{Done, Fault, Idle, Stopped, Unsynced, Memory, Refused}
use Rattle.connections.specs.declared.ending.SessionFault.{SessionFault}
use Rattle.connections.specs.declared.ending.SessionFault.TheVariants as session
use Rattle.connections.specs.declared.loop_limits.TheConstants.{FULL_OUTPUT, LAST_MILLISECONDS}
use Rattle.connections.specs.declared.places.Places.{Places}
use Rattle.connections.specs.declared.talk.Talk.{Talk}
use Rattle.connections.specs.Endings.{AreInside, IsFinished, comers, most_comers, rounds}
use Rattle.connections.specs.Fairness.{IsAttended, IsFair, IsUsed, IsWhole, NoneOrdered, NoneWaited}
use Rattle.connections.specs.Histories.{Stage, At, Ordered, GoesOn, Syncs, NoneWaits, On, Deed, Comes, Opens, Refuses, Reads, IsOver, IsSilent, Hears, Misses, Lacks, Takes, TakesNone, Fails, Ends, Closes, History, Course, Hearing, IfThere, clock, course, stage, stopped, IsOfSession, Leads}
use Rattle.connections.specs.Pauses.{IsPause, MayStay}
use Rattle.connections.specs.Rounds.{gives_turn, was_busy, InRound, IsUnread}
use Rattle.connections.specs.Telling.{answered_unkept, losses, unsynced}
use Rattle.connections.specs.Soundness.{Here, IsHearing, IsSoundHistory, IsWell, MayBeClosed}

-- what was read and not heard, what was answered and not taken, and since when the connection is idle
pub record KeepsCourse (input output : List ℕ) (idle_since : Option ℕ) (over : Bool) (of : Course) : Type 0 where
  pub fine : IsWell of
  pub input_rest : of.read ≡ of.heard ++ input
  pub output_rest : of.answered ≡ of.taken ++ output
  pub last : of.idle_since ≡ idle_since
  pub end : of.is_over ≡ over

abbrev pub KeepsTalk : Talk → Course → Type 0
KeepsTalk talk = KeepsCourse talk.input.items talk.output.items talk.idle_since talk.is_over

-- the place has this connection, or is free
abbrev pub Fits : Option Talk → Option Course → Type 0
Fits None None = ⊤
Fits None (Some of) = ⊥
Fits (Some talk) None = ⊥
Fits (Some talk) (Some of) = KeepsTalk talk of

-- what is so of a round and goes on to be so in it
pub record Lasts (before after : History) : Type 0 where
  pub turns : (is : Deed → Bool) (place : ℕ) → InRound is before place → InRound is after place
  pub none_waited : NoneWaited before → NoneWaited after
  pub none_ordered : NoneOrdered before → NoneOrdered after
  pub used : (place : ℕ) → IsUsed before place → IsUsed after place
  pub fair : (idle count size : ℕ) → IsFair idle count size before → IsFair idle count size after
  pub same_sync : unsynced after ≡ unsynced before
  pub unkept : (is_unkept : List ℕ → Bool) → answered_unkept is_unkept before ≡ true → answered_unkept is_unkept after ≡ true

-- what happened meanwhile happened at this place, and so many connections came; so many were counted before that were
-- closed for want of memory, and so many after
pub record Stays (place came wanting wanting_new : ℕ) (before after : History) : Type 0 where
  pub others : (other : ℕ) → other ≢ place → course after other ≡ course before other
  pub same_clock : clock after ≡ clock before
  pub same_stage : stage after ≡ stage before
  pub same_stop : stopped after ≡ stopped before
  pub same_rounds : rounds after ≡ rounds before
  pub lasts : Lasts before after
  pub more_came : comers after ≡ comers before + came
  pub more_lost : losses after + wanting ≡ losses before + wanting_new
  pub unread : (other : ℕ) → other ≢ place → IsUnread other before → IsUnread other after
  pub inside : (size : ℕ) → place < size → AreInside size before → AreInside size after

-- how many connections a call took that says whether it took one
abbrev pub came_by : Bool → ℕ
came_by true = 1
came_by false = 0

-- what is then so of the round: the place is in use, or no connection waited
abbrev pub HasTried : Bool → ℕ → History → Type 0
HasTried true place acts = IsUsed acts place
HasTried false place acts = NoneWaited acts

-- the same of each place
abbrev pub FitAll : List (Option Talk) → History → Type 0
FitAll places acts = (place : ℕ) → Fits (get_or places place None) (course acts place)

-- no connection was asked in this round for what it sends
abbrev pub AreUnread : History → Type 0
AreUnread acts = (place : ℕ) → IsUnread place acts

-- no place has a connection
abbrev pub AreFree : Places → Type 0
AreFree places = (place : ℕ) → get_or places.slots.items place None ≡ None

-- how many places there are
abbrev pub size_of : Places → ℕ
size_of places = length places.slots.items

-- the round stays where it is, at so many places; so many more connections may be taken before, and so many
-- after, and so many were counted that were closed for want of memory
pub record StaysInRound (size left left_new wanting wanting_new : ℕ) (before after : History) : Type 0 where
  pub same_clock : clock after ≡ clock before
  pub same_stage : stage after ≡ stage before
  pub same_stop : stopped after ≡ stopped before
  pub same_rounds : rounds after ≡ rounds before
  pub lasts : Lasts before after
  pub fewer_left : comers after + left_new ≡ comers before + left
  pub more_lost : losses after + wanting ≡ losses before + wanting_new
  pub inside : AreInside size before → AreInside size after

-- whether something was done in the round so far
abbrev pub IsKnownBusy : Bool → History → Type 0
IsKnownBusy is_busy acts = was_busy acts ≡ is_busy

-- a round has begun at this time, and nothing was done in it
pub record Begins (now : ℕ) (before after : History) : Type 0 where
  pub hearing : stage after ≡ Hearing
  pub time : clock after ≡ now
  pub same_comers : comers after ≡ comers before
  pub more_rounds : rounds after ≡ rounds before + 1
  pub same_losses : losses after ≡ losses before
  pub unread : AreUnread after
  pub quiet : IsKnownBusy false after
  pub inside : (size : ℕ) → AreInside size before → AreInside size after
  pub fair : (idle count size : ℕ) → IsFair idle count size before → IsWhole idle before → ¬ IsFinished count before → IsFair idle count size after
  pub same_sync : unsynced after ≡ unsynced before
  pub unkept : (is_unkept : List ℕ → Bool) → answered_unkept is_unkept before ≡ true → answered_unkept is_unkept after ≡ true

-- the same, and, if nothing was, for how long the next round may wait: at most so long, and as long as each
-- connection at so many places may stay as it is
abbrev pub KnowsPause : ℕ → ℕ → ℕ → Bool → ℕ → History → Type 0
KnowsPause idle size longest is_busy pause acts = IsKnownBusy is_busy acts
    × (is_busy ≡ false → (most : ℕ) → (most ≤ pause) ↔ ((most ≤ longest) × ((place : ℕ) → place < size → IfThere (course acts place) (MayStay idle acts most))))

-- the same with the connection at one place more
abbrev pub KnowsPauseAt : ℕ → ℕ → Bool → ℕ → Bool → ℕ → History → Type 0
KnowsPauseAt idle place is_busy pause is_busy_new pause_new acts = IsKnownBusy is_busy_new acts
    × (is_busy_new ≡ false → (is_busy ≡ false) × ((most : ℕ) → (most ≤ pause_new) ↔ ((most ≤ pause) × IfThere (course acts place) (MayStay idle acts most))))

-- a stop may be ordered, or none is so far
abbrev pub MayOrder : History → History → Type 0
MayOrder before after = (after ≡ before) ⊎ (after ≡ Ordered ∷ before) ⊎ (after ≡ GoesOn ∷ before)

-- why a connection is closed whose session was not opened, or did not hear
abbrev pub ending_of : SessionFault → Ending
ending_of session.Memory = Memory
ending_of session.Refused = Refused

-- ---- one step

-- what happens to a connection that is there and goes on, and not to its session
abbrev pub IsOfConnection : Deed → Type 0
IsOfConnection Comes = ⊥
IsOfConnection Opens = ⊥
IsOfConnection (Refuses why) = ⊥
IsOfConnection (Reads bytes) = ⊤
IsOfConnection IsOver = ⊤
IsOfConnection IsSilent = ⊤
IsOfConnection (Hears part reply) = ⊥
IsOfConnection (Misses part why) = ⊥
IsOfConnection Lacks = ⊥
IsOfConnection (Takes bytes) = ⊤
IsOfConnection TakesNone = ⊤
IsOfConnection Fails = ⊤
IsOfConnection Ends = ⊥
IsOfConnection (Closes why) = ⊥

-- at most one such deed more, at this place
abbrev pub Adds : ℕ → History → History → Type 0
Adds place before after = (after ≡ before) ⊎ ((deed : Deed) × IsOfConnection deed × (after ≡ On place deed ∷ before))

-- only deeds of sessions
abbrev pub AreOfSessions : History → Type 0
AreOfSessions [] = ⊤
AreOfSessions (At pause now ∷ before) = ⊥
AreOfSessions (Ordered ∷ before) = ⊥
AreOfSessions (Syncs kept ∷ before) = ⊥
AreOfSessions (GoesOn ∷ before) = ⊥
AreOfSessions (NoneWaits ∷ before) = ⊥
AreOfSessions (On place deed ∷ before) = IsOfSession deed × AreOfSessions before

-- only such deeds more
abbrev pub AddsOfSessions : History → History → Type 0
AddsOfSessions before after = (more : History) × AreOfSessions more × (after ≡ more ++ before)

-- the connection goes on, and this is so of it, or there is a reason to close it
abbrev pub GoesOrCloses : {X : Type 0} → ℕ → History → ℕ → Result X Ending → (X → Course → Type 0) → Type 0
GoesOrCloses idle acts place (Ok done) Kept = Here (course acts place) (Kept done)
GoesOrCloses idle acts place (Err why) Kept = Here (course acts place) (λ of. (of.is_open ≡ true) × MayBeClosed idle acts place why of)

-- the connection goes on as it is kept, or there is a reason to close it
abbrev pub Judged : {X : Type 0} → ℕ → History → ℕ → Result X Ending → Talk → Type 0
Judged idle acts place result talk = GoesOrCloses idle acts place result (λ _. KeepsTalk talk)

-- the peer sends no more, and all is heard and told
abbrev pub IsDone : Talk → Type 0
IsDone talk = (talk.is_over ≡ true) × (talk.input.items ≡ []) × (talk.output.items ≡ [])

-- a stop was ordered, and all that was answered is taken, or the last time for it is over
abbrev pub IsStopDue : ℕ → Option ℕ → Talk → Type 0
IsStopDue now stop talk = (since : ℕ) × (stop ≡ Some since) × ((talk.output.items ≡ []) ⊎ (since + LAST_MILLISECONDS ≤ now))

-- the connection may be idle for so long, and was
abbrev pub IsIdleDue : ℕ → ℕ → Talk → Type 0
IsIdleDue now idle talk = (1 ≤ idle) × (since : ℕ) × (talk.idle_since ≡ Some since) × (since + idle ≤ now)

-- why a connection is closed that goes on well, by what is kept of it, if it is
abbrev pub IsJudged : ℕ → ℕ → Option ℕ → Talk → Result ℕ Ending → Type 0
IsJudged now idle stop talk (Ok most) = (¬ IsDone talk) × (¬ IsIdleDue now idle talk) × (¬ IsStopDue now stop talk)
IsJudged now idle stop talk (Err Done) = IsDone talk
IsJudged now idle stop talk (Err Fault) = ⊥
IsJudged now idle stop talk (Err Idle) = IsIdleDue now idle talk
IsJudged now idle stop talk (Err Stopped) = IsStopDue now stop talk
IsJudged now idle stop talk (Err Unsynced) = ⊥
IsJudged now idle stop talk (Err Memory) = ⊥
IsJudged now idle stop talk (Err Refused) = ⊥

-- some bytes wait to be heard, and their answers have room
abbrev pub MayHearFrom : List ℕ → List ℕ → Type 0
MayHearFrom input output = (input ≢ []) × (length output ≤ FULL_OUTPUT)

-- the history is that of these connections, and is sound
abbrev pub Knows : {C : Type 0} → (C → History → Type 0) → ℕ → C → History → Type 0
Knows has idle connections acts = has connections acts × IsSoundHistory idle acts

-- the rounds so far are whole, of so many connections so many more may be taken, and the next round waits so long
abbrev pub HasWholeRounds : ℕ → ℕ → ℕ → ℕ → ℕ → History → Type 0
HasWholeRounds idle count size left pause acts = (comers acts + left ≡ most_comers count) × IsFair idle count size acts × IsWhole idle acts × AreInside size acts × IsPause idle acts pause

-- ---- sessions, and both

module _ {S : Type 0} (opens : S → ℕ → S → Type 0) (refuses : S → ℕ → SessionFault → Type 0) (hears : S → ℕ → List ℕ → List ℕ → S → Type 0) (misses : S → ℕ → List ℕ → SessionFault → S → Type 0) (ends : S → ℕ → S → Type 0) where
  -- the history leads from these sessions to those, and is sound
  abbrev pub Held : ℕ → S → S → History → Type 0
  Held idle start sessions acts = Leads opens refuses hears misses ends start acts sessions × IsSoundHistory idle acts

  -- what happens to the session of a place while connections are heard, from what is kept of it to what is then kept;
  -- by the test, whether it heard anything
  abbrev pub Hearkens : {X : Type 0} → (X → Bool) → ℕ → S → (Course → Type 0) → Result X Ending → S → (X → Course → Type 0) → Type 0
  Hearkens hears_some place old Kept result new Then = (idle : ℕ) (start : S) (acts : History) → Held idle start old acts → IsHearing acts
      → Here (course acts place) Kept
      → (after : History) × Stays place 0 0 0 acts after × AddsOfSessions acts after × Held idle start new after × GoesOrCloses idle after place result Then
      × IfOk result (λ done. hears_some done ≡ true → InRound gives_turn after place × (was_busy after ≡ true))

  -- the session hears so many bytes, at least one, of those that wait to be heard
  abbrev pub HearsFrom : ℕ → S → List ℕ → List ℕ → Result ℕ Ending → S → List ℕ → Type 0
  HearsFrom place old input output result new output_new = IfOk result (λ count. (1 ≤ count) × (count ≤ length input))
      × ((since : Option ℕ) (over : Bool) → Hearkens (λ _. true) place old (KeepsCourse input output since over) result new (λ count. KeepsCourse (drop count input) output_new since over))

  module _ {C : Type 0} (has : C → History → Type 0) where
    -- all that is known of connections and sessions
    abbrev pub Has : ℕ → S → C → S → History → Type 0
    Has idle start connections sessions acts = has connections acts × Leads opens refuses hears misses ends start acts sessions × IsSoundHistory idle acts

    -- what happens to a connection and its session while connections are heard, whether anything is done, and what is
    -- then kept
    abbrev pub Attends : ℕ → C → S → Talk → Result Bool Ending → C → S → Talk → Type 0
    Attends place connections old talk result connections_new new talk_new = (idle : ℕ) (start : S) (acts : History) → Has idle start connections old acts
        → IsHearing acts → IsUnread place acts → Here (course acts place) (KeepsTalk talk)
        → (after : History) × Stays place 0 0 0 acts after × Has idle start connections_new new after × Judged idle after place result talk_new
        × IfOk result (λ done. Here (course after place) (IsAttended after place) × (was_busy after ≡ done || was_busy acts))

    -- what happens at a place at this stage of a round that is ready for it, whatever is there, where so many
    -- connections come, and so many are counted as lost before and after, and what is then kept, and so of the round
    abbrev pub ServesPlace : Stage → ℕ → ℕ → Option ℕ → ℕ → ℕ → ℕ → ℕ → (History → Type 0) → (History → Type 0) → C → S → Option Talk → C → S → Option Talk → Type 0
    ServesPlace when idle now stop place came wanting wanting_new Ready Turn connections old slot connections_new new slot_new = (start : S) (acts : History) → Has idle start connections old acts
        → stage acts ≡ when → clock acts ≡ now → stopped acts ≡ stop → Ready acts → Fits slot (course acts place)
        → (after : History) × Stays place came wanting wanting_new acts after × Has idle start connections_new new after × Fits slot_new (course after place) × Turn after

    -- the same at all places; so many more connections may be taken before, and so many after
    abbrev pub Tours : Stage → ℕ → ℕ → Option ℕ → ℕ → ℕ → ℕ → ℕ → (History → Type 0) → (History → Type 0) → C → S → List (Option Talk) → C → S → List (Option Talk) → Type 0
    Tours when idle now stop left left_new wanting wanting_new Ready Turn connections old places connections_new new places_new = (start : S) (acts : History) → Has idle start connections old acts
        → stage acts ≡ when → clock acts ≡ now → stopped acts ≡ stop → Ready acts → FitAll places acts
        → (after : History) × StaysInRound (length places) left left_new wanting wanting_new acts after × Has idle start connections_new new after × FitAll places_new after × Turn after

    -- one round, in which so many connections are closed for want of memory, and what is answered is put on its disk, or not
    abbrev pub Turns : ℕ → Option ℕ → ℕ → ℕ → C → S → List (Option Talk) → Option ℕ → ℕ → ℕ → ℕ → Bool → C → S → List (Option Talk) → Type 0
    Turns idle stop left pause connections old places stop_new left_new pause_new wanting kept connections_new new places_new = (count : ℕ) (start : S) (acts : History) → Has idle start connections old acts
        → stopped acts ≡ stop → FitAll places acts → HasWholeRounds idle count (length places) left pause acts → ¬ IsFinished count acts
        → (after : History) × Has idle start connections_new new after × (stopped after ≡ stop_new) × FitAll places_new after
        × (rounds after ≡ rounds acts + 1) × (losses after ≡ losses acts + wanting) × HasWholeRounds idle count (length places) left_new pause_new after
        × (unsynced after ≡ (if kept then unsynced acts else true)) × ((is_unkept : List ℕ → Bool) → answered_unkept is_unkept acts ≡ true → answered_unkept is_unkept after ≡ true)
