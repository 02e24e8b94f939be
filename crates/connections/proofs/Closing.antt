-- A connection is taken and its session opened; a session is ended and its connection closed.
use Rattle.std.proofs.Common.{◌≡◌, ◌≢◌, ◌⊎◌, ℕ, ◌+◌, ◌≤◌, List, [], ◌∷◌, ◌++◌, true, false, Option, Some, None, Result, Ok, Err, IfOk, refl, sym, subst, ap, ◌∙◌, arith, inl, inr, append-nil}
use Rattle.connections.specs.declared.ending.Ending.{Ending}
use Rattle.connections.specs.declared.ending.Ending.TheVariants.{Done, Fault, Idle, Stopped, Unsynced, Memory, Refused}
use Rattle.connections.specs.declared.ending.SessionFault.{SessionFault}
use Rattle.connections.specs.declared.ending.SessionFault.TheVariants as session
use Rattle.std.proofs.lemmas.Bool.{false≢true}
use Rattle.connections.specs.declared.loop_limits.TheConstants.{LAST_MILLISECONDS}
use Rattle.connections.specs.declared.talk.Talk.{Talk}
use Rattle.connections.specs.Fairness.{IsNotDue, IsUsed}
use Rattle.connections.specs.Fitting.{Fits, Has, IsDone, IsIdleDue, IsJudged, IsStopDue, ending_of, Judged, KeepsCourse, KeepsTalk, Stays}
use Rattle.connections.specs.Histories.{On, Comes, Opens, Refuses, Ends, Closes, History, Course, Hearing, Telling, clock, course, done_at, just_taken, stage, stopped, went_on, Leads}
use Rattle.connections.specs.Rounds.{offers, was_busy, InRound, IsUnread}
use Rattle.connections.specs.Soundness.{Here, HadTurn, IsDue, IsFaultless, IsHearing, IsNew, IsReason, IsTaken, IsWell, MayBeClosed}
use Rattle.connections.specs.Telling.{lost_by}
use Rattle.connections.proofs.Steps.{here_at, here_of, here_one, here_so, none_left, some_there, stays_both, stays_counted, stays_one, still_unread, went, Passes}

-- ---- a place and its history

pub fits_here : (talk : Talk) (there : Option Course) → Fits (Some talk) there → Here there (KeepsTalk talk)
fits_here talk None fits = absurd fits
fits_here talk (Some of) fits = fits

pub here_fits : (talk : Talk) (there : Option Course) → Here there (KeepsTalk talk) → Fits (Some talk) there
here_fits talk None here = absurd here
here_fits talk (Some of) here = here

pub none_fits : (there : Option Course) → there ≡ None → Fits None there
none_fits there gone = rw gone tt

pub fits_none : (there : Option Course) → Fits None there → there ≡ None
fits_none None fits = refl
fits_none (Some of) fits = absurd fits

-- what was told stays so when the session is ended
told_still : (acts : History) (place : ℕ) (of : Course) → IsTaken of ⊎ InRound offers acts place → IsTaken of ⊎ InRound offers (On place Ends ∷ acts) place
told_still acts place of (inl all) = inl all
told_still acts place of (inr found) = inr (inr found)

-- a reason to close stays one when the session is ended
reason_kept : (idle : ℕ) (acts : History) (place : ℕ) (of : Course) (why : Ending) → MayBeClosed idle acts place why of → MayBeClosed idle (On place Ends ∷ acts) place why (record of { is_open = false; has_ended = true })
reason_kept idle acts place of Done reason = reason
reason_kept idle acts place of Fault reason = reason
reason_kept idle acts place of Idle (reason, (over, told)) = (reason, (over, told_still acts place of told))
reason_kept idle acts place of Stopped (reason, (over, told)) = (reason, (over, told_still acts place of told))
reason_kept idle acts place of Unsynced reason = reason
reason_kept idle acts place of Memory reason = reason
reason_kept idle acts place of Refused reason = reason

pub faultless : (of : Course) → IsWell of → IsFaultless of
faultless of (opened, fine) = fine

-- what is not due by what is kept is not due
not_due : (now idle : ℕ) (stop : Option ℕ) (acts : History) (talk : Talk) → clock acts ≡ now → stopped acts ≡ stop → (stage acts ≡ Telling false → talk.output.items ≡ []) → ¬ IsDone talk → ¬ IsIdleDue now idle talk
    → ¬ IsStopDue now stop talk → (of : Course) → KeepsTalk talk of → IsNotDue idle acts of
not_due now idle stop acts talk time order synced not_done not_idle not_stop of keeps = by_reason
  where
    told : (since : ℕ) → (of.answered ≡ of.taken) ⊎ (since + LAST_MILLISECONDS ≤ clock acts) → (talk.output.items ≡ []) ⊎ (since + LAST_MILLISECONDS ≤ now)
    told since (inl all) = inl (none_left of.answered of.taken talk.output.items keeps.output_rest all)
    told since (inr late) = inr (let l : since + LAST_MILLISECONDS ≤ clock acts = late in omega arith)

    by_reason : (why : Ending) → ¬ IsReason idle acts why of
    by_reason Done (fine, over, heard, all) = not_done (
      sym keeps.end ∙ over,
      none_left of.read of.heard talk.input.items keeps.input_rest heard,
      none_left of.answered of.taken talk.output.items keeps.output_rest all,
    )
    by_reason Fault failed = false≢true (sym (faultless of keeps.fine).0 ∙ failed)
    by_reason Idle (fine, may, since, is, late) = not_idle (may, since, sym keeps.last ∙ is, subst (λ (t : ℕ). since + idle ≤ t) time late)
    by_reason Stopped (fine, since, is, all) = not_stop (since, sym order ∙ is, told since all)
    by_reason Unsynced (fine, unsynced, some) =
        some (keeps.output_rest ∙ ap (λ (t : List ℕ). of.taken ++ t) (synced unsynced) ∙ append-nil of.taken)
    by_reason Memory wanting = false≢true (sym (faultless of keeps.fine).1 ∙ wanting)
    by_reason Refused refused = false≢true (sym (faultless of keeps.fine).2 ∙ refused)

-- a connection of which nothing waits, or was offered, had its turn
had_turn : (acts : History) (place : ℕ) (talk : Talk) → stage acts ≢ Hearing → (talk.output.items ≡ []) ⊎ InRound offers acts place → (of : Course) → KeepsTalk talk of → HadTurn acts place of
had_turn acts place talk over (inl none) of keeps = (over, inl (keeps.output_rest ∙ ap (λ (t : List ℕ). of.taken ++ t) none ∙ append-nil of.taken))
had_turn acts place talk over (inr found) of keeps = (over, inr found)

-- the reasons of a connection that goes on well are reasons
pub judged : (now idle : ℕ) (stop : Option ℕ) (acts : History) (place : ℕ) (talk : Talk) (result : Result ℕ Ending) → clock acts ≡ now → stopped acts ≡ stop → (stage acts ≡ Telling false → talk.output.items ≡ [])
    → stage acts ≢ Hearing → (talk.output.items ≡ []) ⊎ InRound offers acts place → Here (course acts place) (KeepsTalk talk) → IsJudged now idle stop talk result
    → Judged idle acts place result talk × IfOk result (λ most. Here (course acts place) (IsNotDue idle acts))
judged now idle stop acts place talk (Ok most) time order synced over told here is = (here, here_so (course acts place) (KeepsTalk talk) (IsNotDue idle acts) (not_due now idle stop acts talk time order synced is.0 is.1 is.2) here)
judged now idle stop acts place talk (Err Done) time order synced over told here is = (
  here_so (course acts place) (KeepsTalk talk) (λ (of : Course). (of.is_open ≡ true) × MayBeClosed idle acts place Done of)
      (λ (of : Course) (keeps : KeepsTalk talk of). (
        keeps.fine.0,
        (
          faultless of keeps.fine,
          keeps.end ∙ is.0,
          keeps.input_rest ∙ ap (λ (t : List ℕ). of.heard ++ t) is.1 ∙ append-nil of.heard,
          keeps.output_rest ∙ ap (λ (t : List ℕ). of.taken ++ t) is.2 ∙ append-nil of.taken,
        ),
      )) here,
  tt,
)
judged now idle stop acts place talk (Err Fault) time order synced over told here is = absurd is
judged now idle stop acts place talk (Err Idle) time order synced over told here is = (
  here_so (course acts place) (KeepsTalk talk) (λ (of : Course). (of.is_open ≡ true) × MayBeClosed idle acts place Idle of)
      (λ (of : Course) (keeps : KeepsTalk talk of). (keeps.fine.0, ((faultless of keeps.fine, is.0, is.1, keeps.last ∙ is.2, rw time is.3), had_turn acts place talk over told of keeps))) here,
  tt,
)
judged now idle stop acts place talk (Err Stopped) time order synced over told here is = (
  here_so (course acts place) (KeepsTalk talk) (λ (of : Course). (of.is_open ≡ true) × MayBeClosed idle acts place Stopped of)
      (λ (of : Course) (keeps : KeepsTalk talk of). (keeps.fine.0, ((faultless of keeps.fine, is.0, order ∙ is.1, told_or_late of keeps is.2), had_turn acts place talk over told of keeps))) here,
  tt,
)
  where
    told_or_late : (of : Course) → KeepsTalk talk of → (talk.output.items ≡ []) ⊎ (is.0 + LAST_MILLISECONDS ≤ now)
        → (of.answered ≡ of.taken) ⊎ (is.0 + LAST_MILLISECONDS ≤ clock acts)
    told_or_late of keeps (inl none) = inl (keeps.output_rest ∙ ap (λ (t : List ℕ). of.taken ++ t) none ∙ append-nil of.taken)
    told_or_late of keeps (inr late) = inr (rw time late)
judged now idle stop acts place talk (Err Unsynced) time order synced over told here is = absurd is
judged now idle stop acts place talk (Err Memory) time order synced over told here is = absurd is
judged now idle stop acts place talk (Err Refused) time order synced over told here is = absurd is

opening_reason : (idle : ℕ) (acts : History) (place : ℕ) (fault : SessionFault) (of : Course) → went_on (Refuses fault) just_taken ≡ Some of → (of.is_open ≡ false) × MayBeClosed idle acts place (ending_of fault) of
opening_reason idle acts place session.Memory of is = subst (λ (there : Option Course). Here there (λ of. (of.is_open ≡ false) × (of.is_wanting ≡ true))) is (refl, refl)
opening_reason idle acts place session.Refused of is = subst (λ (there : Option Course). Here there (λ of. (of.is_open ≡ false) × (of.is_refused ≡ true))) is (refl, refl)

-- where a session is not opened, its connection goes on until it is closed
gone_on : (fault : SessionFault) → (of : Course) × (went_on (Refuses fault) just_taken ≡ Some of)
gone_on session.Memory = (_, refl)
gone_on session.Refused = (_, refl)

module _ {S : Type 0} (opens : S → ℕ → S → Type 0) (refuses : S → ℕ → SessionFault → Type 0) (hears : S → ℕ → List ℕ → List ℕ → S → Type 0) (misses : S → ℕ → List ℕ → SessionFault → S → Type 0) (ends : S → ℕ → S → Type 0) {C : Type 0} (has : C → History → Type 0) where
  -- ---- the end of a connection

  -- a connection is closed, once these are the sessions
  abbrev pub ClosesBy : ℕ → Ending → C → S → C → Type 0
  ClosesBy place why connections sessions connections_new = (start : S) (acts : History) → Leads opens refuses hears misses ends start acts sessions → has connections acts → has connections_new (On place (Closes why) ∷ acts)

  -- a connection is closed, whose session is ended before
  abbrev pub ClosesAt : ℕ → Ending → C → S → C → S → Type 0
  ClosesAt place why connections old connections_new new = (idle : ℕ) (start : S) (acts : History) → Has opens refuses hears misses ends has idle start connections old acts
      → Here (course acts place) (λ of. (of.is_open ≡ true) × MayBeClosed idle acts place why of)
      → (after : History) × Stays place 0 0 (lost_by why) acts after × Has opens refuses hears misses ends has idle start connections_new new after × (course after place ≡ None) × (was_busy after ≡ true)

  pub closed : (place : ℕ) (why : Ending) (connections connections_new : C) (old new : S) → ends old place new
      → Passes has → ClosesBy place why connections new connections_new → ClosesAt place why connections old connections_new new
  closed place why connections connections_new old new ended passes step = λ idle start acts known here.
      let found = here_of (course acts place) (λ (of : Course). (of.is_open ≡ true) × MayBeClosed idle acts place why of) here in
      let of : Course = found.0 in
      let once : History = On place Ends ∷ acts in
      let shut : Course = record of { is_open = false; has_ended = true } in
      let there : course once place ≡ Some shut = went place Ends acts of found.1 in
      let due_end : IsDue idle acts place Ends (course acts place) = here_at (course acts place) of (λ (of : Course). of.is_open ≡ true) found.1 found.2.0 in
      let due_close : IsDue idle once place (Closes why) (course once place) =
      here_at (course once place) shut (λ (of : Course). (of.is_open ≡ false) × MayBeClosed idle once place why of) there (refl, reason_kept idle acts place of why found.2.1) in (
        On place (Closes why) ∷ once,
        stays_both place 0 0 0 0 (lost_by why) acts once (On place (Closes why) ∷ once) (stays_one place Ends acts) (stays_one place (Closes why) once),
        (step start once (old, known.1, ended) (passes connections acts place Ends tt known.0), (old, known.1, ended), ((due_close, λ so. absurd (false≢true so)), ((due_end, λ so. absurd (false≢true so)), known.2))),
        went place (Closes why) once shut there,
        refl,
      )

  -- ---- the beginning of one

  module _ (idle : ℕ) (start : S) (acts : History) (place : ℕ) (connections connections_taken : C) (old : S) (known : Has opens refuses hears misses ends has idle start connections old acts)
      (hearing : IsHearing acts) (free : course acts place ≡ None) (unread : IsUnread place acts)
      (passes : Passes has) (step : has connections acts → has connections_taken (On place Comes ∷ acts)) where
    there : course (On place Comes ∷ acts) place ≡ Some just_taken
    there = here_one place Comes acts ∙ ap (done_at Comes) free

    pub opened : (wanting : ℕ) (new : S) → opens old place new
        → (after : History) × Stays place 1 wanting wanting acts after × Has opens refuses hears misses ends has idle start connections_taken new after × Here (course after place) (KeepsCourse [] [] None false) × IsUsed after place × IsUnread place after × (was_busy after ≡ true)
    opened wanting new does =
        let due : IsDue idle (On place Comes ∷ acts) place Opens (course (On place Comes ∷ acts) place) =
        here_at (course (On place Comes ∷ acts) place) just_taken IsNew there refl in (
          On place Opens ∷ On place Comes ∷ acts,
          stays_counted place 1 0 wanting wanting acts (On place Opens ∷ On place Comes ∷ acts) (omega arith)
              (stays_both place 1 0 0 0 0 acts (On place Comes ∷ acts) (On place Opens ∷ On place Comes ∷ acts) (stays_one place Comes acts) (stays_one place Opens (On place Comes ∷ acts))),
          (passes connections_taken (On place Comes ∷ acts) place Opens tt (step known.0), (old, known.1, does), ((due, λ so. absurd (false≢true so)), (((free, hearing), λ so. absurd (false≢true so)), known.2))),
          here_at (course (On place Opens ∷ On place Comes ∷ acts) place) (record just_taken { is_open = true }) (KeepsCourse [] [] None false) (went place Opens (On place Comes ∷ acts) just_taken there)
              (record { fine = (refl, (refl, refl, refl)); input_rest = refl; output_rest = refl; last = refl; end = refl }),
          inl (λ (none : course (On place Opens ∷ On place Comes ∷ acts) place ≡ None). some_there _ (sym (went place Opens (On place Comes ∷ acts) just_taken there) ∙ none)),
          still_unread place Opens (On place Comes ∷ acts) refl (still_unread place Comes acts refl unread),
          refl,
        )

    pub refused : (fault : SessionFault) (wanting wanting_new : ℕ) → wanting_new ≡ wanting + lost_by (ending_of fault) → refuses old place fault → (new : S) → new ≡ old → (connections_new : C) → ClosesBy place (ending_of fault) connections_taken new connections_new
        → (after : History) × Stays place 1 wanting wanting_new acts after × Has opens refuses hears misses ends has idle start connections_new new after × (course after place ≡ None) × IsUsed after place × IsUnread place after × (was_busy after ≡ true)
    refused fault wanting wanting_new more refusing new same connections_new close =
        let came : History = On place Comes ∷ acts in
        let shut : History = On place (Refuses fault) ∷ came in
        let why : Ending = ending_of fault in
        let leads : Leads opens refuses hears misses ends start shut new = subst (Leads opens refuses hears misses ends start shut) (sym same) (known.1, refusing) in
        let due : IsDue idle came place (Refuses fault) (course came place) =
        here_at (course came place) just_taken IsNew there refl in
        let on = gone_on fault in
        let is : course shut place ≡ Some on.0 = went place (Refuses fault) came just_taken there ∙ on.1 in
        let due_close : IsDue idle shut place (Closes why) (course shut place) =
        here_at (course shut place) on.0 (λ (of : Course). (of.is_open ≡ false) × MayBeClosed idle shut place why of) is (opening_reason idle shut place fault on.0 on.1) in (
          On place (Closes why) ∷ shut,
          stays_counted place 1 (lost_by why) wanting wanting_new acts (On place (Closes why) ∷ shut) more
              (stays_both place 1 0 0 0 (lost_by why) acts shut (On place (Closes why) ∷ shut) (stays_both place 1 0 0 0 0 acts came shut (stays_one place Comes acts) (stays_one place (Refuses fault) came)) (stays_one place (Closes why) shut)),
          (close start shut leads (passes connections_taken came place (Refuses fault) tt (step known.0)), leads, ((due_close, λ so. absurd (false≢true so)), ((due, λ so. absurd (false≢true so)), (((free, hearing), λ so. absurd (false≢true so)), known.2)))),
          went place (Closes why) shut on.0 is,
          inr (inl (refl, refl)),
          still_unread place (Closes why) shut refl (still_unread place (Refuses fault) came refl (still_unread place Comes acts refl unread)),
          refl,
        )
