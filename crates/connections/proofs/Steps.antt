-- One deed more at a place.
use Rattle.std.proofs.Common.{◌≡◌, ◌≢◌, ℕ, ◌+◌, ◌<◌, ◌≤◌, List, [], ◌∷◌, ◌++◌, ◌⊎◌, ◌||◌, length, Bool, true, false, Option, Some, None, Result, Ok, Err, IfOk, refl, sym, ap, subst, ◌∙◌, append_assoc, arith, inl, inr}
use Rattle.std.proofs.lemmas.Bool.{cases_lt, eq-eqb, eqb-true, false≢true, ne_eqb}
use Rattle.std.proofs.lemmas.List.{append-nil, length-append}
use Rattle.std.specs.Prelude.{◌==◌}
use mathlib.Core.Bool.{or-true}
use Rattle.connections.specs.declared.ending.Ending.{Ending}
use Rattle.connections.specs.declared.ending.SessionFault.TheVariants as fault
use Rattle.textio.specs.declared.some_bytes.TheConstants.{PIECE_SIZE}
use Rattle.connections.specs.declared.loop_limits.TheConstants.{FULL_OUTPUT}
use Rattle.connections.specs.declared.talk.Talk.{Talk}
use Rattle.connections.specs.Endings.{comers, newcomers}
use Rattle.connections.specs.Fairness.{IsAttended, IsFull, IsNotDue, IsServed, IsUsed}
use Rattle.connections.specs.Fitting.{Adds, AddsOfSessions, AreOfSessions, IsOfConnection, KeepsCourse, KeepsTalk, Knows, Lasts, Stays, ending_of}
use Rattle.connections.specs.declared.ending.SessionFault.{SessionFault}
use Rattle.connections.specs.Histories.{At, Ordered, GoesOn, Syncs, NoneWaits, On, Deed, Comes, Opens, Refuses, Reads, IsOver, IsSilent, Hears, Misses, Lacks, Takes, TakesNone, Fails, Ends, Closes, History, Course, IfThere, Telling, course, done_at, or_now, rested, stage, went_on, IsOfSession}
use Rattle.connections.specs.Telling.{losses, lost, tells_unkept}
use Rattle.connections.specs.Rounds.{does_something, closes, gives_turn, offers, reads, was_busy, InRound, IsUnread}
use Rattle.connections.specs.Soundness.{Here, AreNext, HasRoom, IsDue, IsHearing, IsOnce, IsWell, MayBeClosed, MayBeOffered, MayBeRead, MayHear}

-- ---- where a connection is

pub here_of : (there : Option Course) (P : Course → Type 0) → Here there P → (of : Course) × (there ≡ Some of) × P of
here_of None P found = absurd found
here_of (Some of) P found = (of, refl, found)

pub here_at : (there : Option Course) (of : Course) (P : Course → Type 0) → there ≡ Some of → P of → Here there P
here_at there of P found is = rw found is

pub here_so : (there : Option Course) (P Q : Course → Type 0) → ((of : Course) → P of → Q of) → Here there P → Here there Q
here_so None P Q so found = found
here_so (Some of) P Q so found = so of found

test : (n : ℕ) → (n == n) ≡ true
test n = eq-eqb n n refl

-- the connection at its place, with one deed more
pub here_one : (place : ℕ) (deed : Deed) (acts : History) → course (On place deed ∷ acts) place ≡ done_at deed (course acts place)
here_one place deed acts = rw (test place) refl

pub went : (place : ℕ) (deed : Deed) (acts : History) (of : Course) → course acts place ≡ Some of → course (On place deed ∷ acts) place ≡ went_on deed of
went place deed acts of is = here_one place deed acts ∙ ap (done_at deed) is

-- ---- a round is over

-- what is so of a connection whether it is idle or not
pub rested_so : (now : ℕ) (there : Option Course) (P : Option Course → Type 0) → ((of : Course) → P (Some of) → P (Some (record of { idle_since = or_now of.idle_since now }))) → P there → P (rested now there)
rested_so now None P so is = is
rested_so now (Some of) P so is = so of is

-- ---- a round goes on

pub some_there : (of : Course) → Some of ≢ None
some_there of same = cc

done_used : (deed : Deed) (there : Option Course) → there ≢ None → (done_at deed there ≢ None) ⊎ (closes deed ≡ true)
done_used deed None some = absurd (some refl)
done_used Comes (Some of) some = inl (some_there _)
done_used Opens (Some of) some = inl (some_there _)
done_used (Refuses fault.Memory) (Some of) some = inl (some_there _)
done_used (Refuses fault.Refused) (Some of) some = inl (some_there _)
done_used (Reads bytes) (Some of) some = inl (some_there _)
done_used IsOver (Some of) some = inl (some_there _)
done_used IsSilent (Some of) some = inl (some_there _)
done_used (Hears part reply) (Some of) some = inl (some_there _)
done_used (Misses part fault.Memory) (Some of) some = inl (some_there _)
done_used (Misses part fault.Refused) (Some of) some = inl (some_there _)
done_used Lacks (Some of) some = inl (some_there _)
done_used (Takes bytes) (Some of) some = inl (some_there _)
done_used TakesNone (Some of) some = inl (some_there _)
done_used Fails (Some of) some = inl (some_there _)
done_used Ends (Some of) some = inl (some_there _)
done_used (Closes why) (Some of) some = inr refl

-- by whether the deed is at this place
used_at : (place : ℕ) (deed : Deed) (acts : History) (other : ℕ) (here : Bool) → (place == other) ≡ here → course acts other ≢ None → IsUsed (On place deed ∷ acts) other
used_at place deed acts other true is some = by_deed (done_used deed (course acts other) some)
  where
    by_deed : (done_at deed (course acts other) ≢ None) ⊎ (closes deed ≡ true) → IsUsed (On place deed ∷ acts) other
    by_deed (inl there) = inl (rw is there)
    by_deed (inr shut) = inr (inl (eqb-true place other is, shut))
used_at place deed acts other false is some = inl (rw is some)

used_one : (place : ℕ) (deed : Deed) (acts : History) (other : ℕ) → IsUsed acts other → IsUsed (On place deed ∷ acts) other
used_one place deed acts other (inl some) = used_at place deed acts other (place == other) refl some
used_one place deed acts other (inr shut) = inr (inr shut)

lasts_one : (place : ℕ) (deed : Deed) (acts : History) → Lasts acts (On place deed ∷ acts)
lasts_one place deed acts = record {
  turns = λ is other found. inr found;
  none_waited = λ none. none;
  none_ordered = λ none. none;
  used = used_one place deed acts;
  fair = λ idle count size fair. fair;
  same_sync = refl;
  unkept = λ is_unkept told. ap (λ (b : Bool). tells_unkept is_unkept deed || b) told ∙ or-true (tells_unkept is_unkept deed);
}

pub lasts_none : (acts : History) → Lasts acts acts
lasts_none acts = record {
  turns = λ is other found. found;
  none_waited = λ none. none;
  none_ordered = λ none. none;
  used = λ other used. used;
  fair = λ idle count size fair. fair;
  same_sync = refl;
  unkept = λ is_unkept told. told;
}

pub lasts_both : (acts between after : History) → Lasts acts between → Lasts between after → Lasts acts after
lasts_both acts between after one two = record {
  turns = λ is other found. two.turns is other (one.turns is other found);
  none_waited = λ none. two.none_waited (one.none_waited none);
  none_ordered = λ none. two.none_ordered (one.none_ordered none);
  used = λ other used. two.used other (one.used other used);
  fair = λ idle count size fair. two.fair idle count size (one.fair idle count size fair);
  same_sync = two.same_sync ∙ one.same_sync;
  unkept = λ is_unkept told. two.unkept is_unkept (one.unkept is_unkept told);
}

-- nothing happens at a place, where no connection waits
pub stays_waits : (place wanting : ℕ) (acts : History) → Stays place 0 wanting wanting acts (NoneWaits ∷ acts)
stays_waits place wanting acts = record {
  others = λ other differs. refl;
  same_clock = refl;
  same_stage = refl;
  same_stop = refl;
  same_rounds = refl;
  lasts = record {
    turns = λ is other found. found;
    none_waited = λ none. tt;
    none_ordered = λ none. none;
    used = λ other used. used;
    fair = λ idle count size fair. fair;
    same_sync = refl;
    unkept = λ is_unkept told. told;
  };
  more_came = omega arith;
  more_lost = refl;
  unread = λ other differs none. none;
  inside = λ size less inside. inside;
}

unread_one : (place : ℕ) (deed : Deed) (acts : History) (other : ℕ) → other ≢ place → IsUnread other acts → IsUnread other (On place deed ∷ acts)
unread_one place deed acts other differs none (inl (same, is)) = differs (sym same)
unread_one place deed acts other differs none (inr found) = none found

-- a deed that asks for nothing
pub still_unread : (place : ℕ) (deed : Deed) (acts : History) → reads deed ≡ false → IsUnread place acts → IsUnread place (On place deed ∷ acts)
still_unread place deed acts other none (inl (same, is)) = false≢true (sym other ∙ is)
still_unread place deed acts other none (inr found) = none found

-- all others stay
pub stays_one : (place : ℕ) (deed : Deed) (acts : History) → Stays place (newcomers deed) 0 (lost deed) acts (On place deed ∷ acts)
stays_one place deed acts = record {
  others = λ other differs. rw (ne_eqb place other (λ (same : place ≡ other). differs (sym same))) refl;
  same_clock = refl;
  same_stage = refl;
  same_stop = refl;
  same_rounds = refl;
  lasts = lasts_one place deed acts;
  more_came = refl;
  more_lost = omega arith;
  unread = unread_one place deed acts;
  inside = λ size less inside. (less, inside);
}

-- nothing is left of a list that was the whole
pub none_left : (xs ys rest : List ℕ) → xs ≡ ys ++ rest → xs ≡ ys → rest ≡ []
none_left xs ys [] split same = refl
none_left xs ys (x ∷ rest) split same =
    let size : length xs ≡ length ys + length (x ∷ rest) = ap length split ∙ length-append ys (x ∷ rest) in
    let equal : length xs ≡ length ys = ap length same in
    absurd (omega arith)

-- output waits, so less is taken than answered
pub not_told : (of : Course) (input output : List ℕ) (since : Option ℕ) (over : Bool) → output ≢ [] → KeepsCourse input output since over of → of.answered ≢ of.taken
not_told of input output since over some keeps same = some (none_left of.answered of.taken output keeps.output_rest same)

-- ---- a deed that leaves a connection

-- what is due of a connection, and what is so of it after the deed
abbrev pub Next : ℕ → History → ℕ → Deed → (Course → Type 0) → Type 0
Next idle acts place deed P = (IsDue idle acts place deed (course acts place) × IsOnce acts place deed) × Here (course (On place deed ∷ acts) place) P

pub next_read : (idle : ℕ) (acts : History) (place : ℕ) (bytes input output : List ℕ) (since : Option ℕ) (over : Bool) → IsUnread place acts → IsHearing acts → 1 ≤ length bytes → length bytes ≤ PIECE_SIZE
    → Here (course acts place) (λ of. KeepsCourse input output since over of × MayBeRead of) → Next idle acts place (Reads bytes) (KeepsCourse bytes output None over)
next_read idle acts place bytes input output since over unread hearing some few here =
    let found = here_of (course acts place) (λ (of : Course). KeepsCourse input output since over of × MayBeRead of) here in
    let of : Course = found.0 in
    let keeps : KeepsCourse input output since over of = found.2.0 in
    let may : MayBeRead of = found.2.1 in (
      (here_at (course acts place) of (λ (of : Course). MayBeRead of × IsHearing acts × (1 ≤ length bytes) × (length bytes ≤ PIECE_SIZE)) found.1 (may, hearing, some, few), λ so. unread),
      here_at (course (On place (Reads bytes) ∷ acts) place) (record of { read = of.read ++ bytes; idle_since = None }) (KeepsCourse bytes output None over) (went place (Reads bytes) acts of found.1)
          (record {
            fine = keeps.fine;
            input_rest = ap (λ (t : List ℕ). t ++ bytes) may.1;
            output_rest = keeps.output_rest;
            last = refl;
            end = keeps.end;
          }),
    )

pub next_over : (idle : ℕ) (acts : History) (place : ℕ) (input output : List ℕ) (since : Option ℕ) (over : Bool) → IsUnread place acts → IsHearing acts
    → Here (course acts place) (λ of. KeepsCourse input output since over of × MayBeRead of) → Next idle acts place IsOver (KeepsCourse input output since true)
next_over idle acts place input output since over unread hearing here =
    let found = here_of (course acts place) (λ (of : Course). KeepsCourse input output since over of × MayBeRead of) here in
    let of : Course = found.0 in
    let keeps : KeepsCourse input output since over of = found.2.0 in (
      (here_at (course acts place) of (λ (of : Course). MayBeRead of × IsHearing acts) found.1 (found.2.1, hearing), λ so. unread),
      here_at (course (On place IsOver ∷ acts) place) (record of { is_over = true }) (KeepsCourse input output since true) (went place IsOver acts of found.1)
          (record {
            fine = keeps.fine;
            input_rest = keeps.input_rest;
            output_rest = keeps.output_rest;
            last = keeps.last;
            end = refl;
          }),
    )

pub next_silent : (idle : ℕ) (acts : History) (place : ℕ) (input output : List ℕ) (since : Option ℕ) (over : Bool) → IsUnread place acts → IsHearing acts
    → Here (course acts place) (λ of. KeepsCourse input output since over of × MayBeRead of) → Next idle acts place IsSilent (KeepsCourse input output since over)
next_silent idle acts place input output since over unread hearing here =
    let found = here_of (course acts place) (λ (of : Course). KeepsCourse input output since over of × MayBeRead of) here in
    let of : Course = found.0 in (
      (here_at (course acts place) of (λ (of : Course). MayBeRead of × IsHearing acts) found.1 (found.2.1, hearing), λ so. unread),
      here_at (course (On place IsSilent ∷ acts) place) of (KeepsCourse input output since over) (went place IsSilent acts of found.1) found.2.0,
    )

-- a read fails, where the connection may be read, or a write does, where it may take
abbrev pub MayFail : History → Course → Type 0
MayFail acts of = (MayBeRead of × IsHearing acts) ⊎ (MayBeOffered of × (stage acts ≡ Telling true))

pub next_fail : (idle : ℕ) (acts : History) (place : ℕ) (input output : List ℕ) (since : Option ℕ) (over : Bool) → Here (course acts place) (λ of. KeepsCourse input output since over of × MayFail acts of)
    → Next idle acts place Fails (λ of. (of.is_open ≡ true) × (of.has_failed ≡ true))
next_fail idle acts place input output since over here =
    let found = here_of (course acts place) (λ (of : Course). KeepsCourse input output since over of × MayFail acts of) here in
    let of : Course = found.0 in (
      (here_at (course acts place) of (MayFail acts) found.1 found.2.1, λ so. absurd (false≢true so)),
      here_at (course (On place Fails ∷ acts) place) (record of { has_failed = true }) (λ (of : Course). (of.is_open ≡ true) × (of.has_failed ≡ true)) (went place Fails acts of found.1) (found.2.0.fine.0, refl),
    )

some_bytes : (bytes rest : List ℕ) → 1 ≤ length bytes → bytes ++ rest ≢ []
some_bytes [] rest some none = absurd (omega arith)
some_bytes (byte ∷ more) rest some none = cc

pub next_take : (idle : ℕ) (acts : History) (place : ℕ) (bytes rest input output : List ℕ) (since : Option ℕ) (over : Bool) → stage acts ≡ Telling true → 1 ≤ length bytes → output ≡ bytes ++ rest
    → Here (course acts place) (KeepsCourse input output since over) → Next idle acts place (Takes bytes) (KeepsCourse input rest None over)
next_take idle acts place bytes rest input output since over telling some split here =
    let found = here_of (course acts place) (KeepsCourse input output since over) here in
    let of : Course = found.0 in
    let keeps : KeepsCourse input output since over of = found.2 in
    let answered : of.answered ≡ of.taken ++ (bytes ++ rest) = keeps.output_rest ∙ ap (λ (t : List ℕ). of.taken ++ t) split in
    let more : output ≢ [] = λ none. some_bytes bytes rest some (sym split ∙ none) in (
      (
        here_at (course acts place) of (λ (of : Course). MayBeOffered of × (stage acts ≡ Telling true) × (1 ≤ length bytes) × AreNext bytes of.answered of.taken) found.1
            ((keeps.fine, not_told of input output since over more keeps), telling, some, (rest, answered)),
        λ so. absurd (false≢true so),
      ),
      here_at (course (On place (Takes bytes) ∷ acts) place) (record of { taken = of.taken ++ bytes; idle_since = None }) (KeepsCourse input rest None over) (went place (Takes bytes) acts of found.1)
          (record {
            fine = keeps.fine;
            input_rest = keeps.input_rest;
            output_rest = answered ∙ sym (append_assoc of.taken bytes rest);
            last = refl;
            end = keeps.end;
          }),
    )

pub next_take_none : (idle : ℕ) (acts : History) (place : ℕ) (input output : List ℕ) (since : Option ℕ) (over : Bool) → stage acts ≡ Telling true → output ≢ []
    → Here (course acts place) (KeepsCourse input output since over) → Next idle acts place TakesNone (KeepsCourse input output since over)
next_take_none idle acts place input output since over telling some here =
    let found = here_of (course acts place) (KeepsCourse input output since over) here in
    let of : Course = found.0 in (
      (here_at (course acts place) of (λ (of : Course). MayBeOffered of × (stage acts ≡ Telling true)) found.1 ((found.2.fine, not_told of input output since over some found.2), telling), λ so. absurd (false≢true so)),
      here_at (course (On place TakesNone ∷ acts) place) of (KeepsCourse input output since over) (went place TakesNone acts of found.1) found.2,
    )

-- ---- a deed of a connection

module _ {C : Type 0} (has : C → History → Type 0) where
  -- what comes of a deed of a connection
  abbrev pub Comes-to : ℕ → ℕ → History → Deed → C → (Course → Type 0) → Type 0
  Comes-to idle place acts deed new P = (after : History) × Adds place acts after × Knows has idle new after × Here (course after place) P
      × ((is : Deed → Bool) → is deed ≡ true → InRound is after place) × (was_busy after ≡ does_something deed || was_busy acts)

  pub come_to : (idle place : ℕ) (acts : History) (old new : C) (deed : Deed) (P : Course → Type 0) → IsOfConnection deed
      → (has old acts → has new (On place deed ∷ acts)) → Knows has idle old acts → Next idle acts place deed P
      → Comes-to idle place acts deed new P
  come_to idle place acts old new deed P is step knows next = (On place deed ∷ acts, inr (deed, is, refl), (step knows.0, (next.0, knows.1)), next.1, λ test so. inl (refl, so), refl)

-- ---- a part that is heard

pub next_hear : (idle : ℕ) (acts : History) (place : ℕ) (part rest reply input output : List ℕ) (since : Option ℕ) (over : Bool) → IsHearing acts → 1 ≤ length part → input ≡ part ++ rest
    → length output ≤ FULL_OUTPUT → Here (course acts place) (KeepsCourse input output since over)
    → Next idle acts place (Hears part reply) (KeepsCourse rest (output ++ reply) since over)
next_hear idle acts place part rest reply input output since over hearing some split few here =
    let found = here_of (course acts place) (KeepsCourse input output since over) here in
    let of : Course = found.0 in
    let keeps : KeepsCourse input output since over of = found.2 in
    let read : of.read ≡ of.heard ++ (part ++ rest) = keeps.input_rest ∙ ap (λ (t : List ℕ). of.heard ++ t) split in
    let size : length of.answered ≡ length of.taken + length output = ap length keeps.output_rest ∙ length-append of.taken output in
    let room : HasRoom of = omega arith in (
      (here_at (course acts place) of (λ (of : Course). MayHear of part × IsHearing acts) found.1 ((keeps.fine, room, some, (rest, read)), hearing), λ so. absurd (false≢true so)),
      here_at (course (On place (Hears part reply) ∷ acts) place) (record of { heard = of.heard ++ part; answered = of.answered ++ reply })
          (KeepsCourse rest (output ++ reply) since over) (went place (Hears part reply) acts of found.1)
          (record {
            fine = keeps.fine;
            input_rest = read ∙ sym (append_assoc of.heard part rest);
            output_rest = ap (λ (t : List ℕ). t ++ reply) keeps.output_rest ∙ append_assoc of.taken output reply;
            last = keeps.last;
            end = keeps.end;
          }),
    )

-- a part that is not heard is a reason to close the connection
missed : (idle : ℕ) (acts : History) (place : ℕ) (part : List ℕ) (why : SessionFault) (of : Course) → of.is_open ≡ true
    → (after : Course) × (went_on (Misses part why) of ≡ Some after) × (after.is_open ≡ true) × MayBeClosed idle acts place (ending_of why) after
missed idle acts place part fault.Memory of opened = (record of { is_wanting = true }, refl, opened, refl)
missed idle acts place part fault.Refused of opened = (record of { is_refused = true }, refl, opened, refl)

pub next_miss : (idle : ℕ) (acts : History) (place : ℕ) (part rest input output : List ℕ) (since : Option ℕ) (over : Bool) (why : SessionFault) → IsHearing acts → 1 ≤ length part → input ≡ part ++ rest
    → length output ≤ FULL_OUTPUT → Here (course acts place) (KeepsCourse input output since over)
    → Next idle acts place (Misses part why) (λ of. (of.is_open ≡ true) × MayBeClosed idle (On place (Misses part why) ∷ acts) place (ending_of why) of)
next_miss idle acts place part rest input output since over why hearing some split few here =
    let found = here_of (course acts place) (KeepsCourse input output since over) here in
    let of : Course = found.0 in
    let keeps : KeepsCourse input output since over of = found.2 in
    let read : of.read ≡ of.heard ++ (part ++ rest) = keeps.input_rest ∙ ap (λ (t : List ℕ). of.heard ++ t) split in
    let size : length of.answered ≡ length of.taken + length output = ap length keeps.output_rest ∙ length-append of.taken output in
    let room : HasRoom of = omega arith in
    let then = missed idle (On place (Misses part why) ∷ acts) place part why of keeps.fine.0 in (
      (here_at (course acts place) of (λ (of : Course). MayHear of part × IsHearing acts) found.1 ((keeps.fine, room, some, (rest, read)), hearing), λ so. absurd (false≢true so)),
      here_at (course (On place (Misses part why) ∷ acts) place) then.0 (λ (of : Course). (of.is_open ≡ true) × MayBeClosed idle (On place (Misses part why) ∷ acts) place (ending_of why) of)
          (went place (Misses part why) acts of found.1 ∙ then.1) (then.2, then.3),
    )

-- what waits to be heard cannot be kept
pub next_lack : (idle : ℕ) (acts : History) (place : ℕ) (input output : List ℕ) (since : Option ℕ) (over : Bool) → IsHearing acts → input ≢ [] → FULL_OUTPUT < length output
    → Here (course acts place) (KeepsCourse input output since over) → Next idle acts place Lacks (λ of. (of.is_open ≡ true) × (of.is_wanting ≡ true))
next_lack idle acts place input output since over hearing some full here =
    let found = here_of (course acts place) (KeepsCourse input output since over) here in
    let of : Course = found.0 in
    let keeps : KeepsCourse input output since over of = found.2 in
    let size : length of.answered ≡ length of.taken + length output = ap length keeps.output_rest ∙ length-append of.taken output in
    let no_room : ¬ HasRoom of = λ (room : length of.answered ≤ length of.taken + FULL_OUTPUT). absurd (omega arith) in (
      (
        here_at (course acts place) of (λ (of : Course). IsWell of × (of.read ≢ of.heard) × (¬ HasRoom of) × IsHearing acts) found.1
            (keeps.fine, (λ same. some (none_left of.read of.heard input keeps.input_rest same)), no_room, hearing),
        λ so. absurd (false≢true so),
      ),
      here_at (course (On place Lacks ∷ acts) place) (record of { is_wanting = true }) (λ (of : Course). (of.is_open ≡ true) × (of.is_wanting ≡ true)) (went place Lacks acts of found.1) (keeps.fine.0, refl),
    )

-- ---- several deeds

-- connections are still heard
pub still_hearing : (place came wanting wanting_new : ℕ) (acts after : History) → Stays place came wanting wanting_new acts after → IsHearing acts → IsHearing after
still_hearing place came wanting wanting_new acts after stays (hearing, goes) = (stays.same_stage ∙ hearing, stays.same_stop ∙ goes)

pub stays_none : (place wanting : ℕ) (acts : History) → Stays place 0 wanting wanting acts acts
stays_none place wanting acts = record { others = λ other differs. refl; same_clock = refl; same_stage = refl; same_stop = refl; same_rounds = refl; lasts = lasts_none acts; more_came = omega arith; more_lost = refl; unread = λ other differs none. none; inside = λ size less inside. inside }

pub stays_both : (place came more wanting wanting_then wanting_new : ℕ) (acts between after : History) → Stays place came wanting wanting_then acts between → Stays place more wanting_then wanting_new between after
    → Stays place (came + more) wanting wanting_new acts after
stays_both place came more wanting wanting_then wanting_new acts between after one two = record {
  others = λ other differs. two.others other differs ∙ one.others other differs;
  same_clock = two.same_clock ∙ one.same_clock;
  same_stage = two.same_stage ∙ one.same_stage;
  same_stop = two.same_stop ∙ one.same_stop;
  same_rounds = two.same_rounds ∙ one.same_rounds;
  lasts = lasts_both acts between after one.lasts two.lasts;
  more_lost =
      let a : losses between + wanting ≡ losses acts + wanting_then = one.more_lost in
      let b : losses after + wanting_then ≡ losses between + wanting_new = two.more_lost in
      omega arith;
  more_came = let a : comers between ≡ comers acts + came = one.more_came in let b : comers after ≡ comers between + more = two.more_came in omega arith;
  unread = λ other differs none. two.unread other differs (one.unread other differs none);
  inside = λ size less inside. two.inside size less (one.inside size less inside);
}

-- so many more than were counted
pub stays_counted : (place came more wanting wanting_new : ℕ) (acts after : History) → wanting_new ≡ wanting + more → Stays place came 0 more acts after → Stays place came wanting wanting_new acts after
stays_counted place came more wanting wanting_new acts after is stays = record {
  others = stays.others;
  same_clock = stays.same_clock;
  same_stage = stays.same_stage;
  same_stop = stays.same_stop;
  same_rounds = stays.same_rounds;
  lasts = stays.lasts;
  more_came = stays.more_came;
  more_lost = let a : losses after + 0 ≡ losses acts + more = stays.more_lost in omega arith;
  unread = stays.unread;
  inside = stays.inside;
}

-- ---- deeds of sessions

-- what happens to sessions passes the connections by
abbrev pub Passes : {C : Type 0} → (C → History → Type 0) → Type 0
Passes {C} has = (connections : C) (acts : History) (place : ℕ) (deed : Deed) → IsOfSession deed → has connections acts → has connections (On place deed ∷ acts)

pub adds_none : (acts : History) → AddsOfSessions acts acts
adds_none acts = ([], tt, refl)

pub adds_one : (place : ℕ) (deed : Deed) (before after : History) → IsOfSession deed → AddsOfSessions before after → AddsOfSessions before (On place deed ∷ after)
adds_one place deed before after is (more, are, same) = (On place deed ∷ more, (is, are), ap (λ (acts : History). On place deed ∷ acts) same)

adds_more : (before between more : History) → AddsOfSessions before between → AreOfSessions more → AddsOfSessions before (more ++ between)
adds_more before between [] one all = one
adds_more before between (At pause now ∷ more) one all = absurd all
adds_more before between (Ordered ∷ more) one all = absurd all
adds_more before between (Syncs kept ∷ more) one all = absurd all
adds_more before between (GoesOn ∷ more) one all = absurd all
adds_more before between (NoneWaits ∷ more) one all = absurd all
adds_more before between (On place deed ∷ more) one (is, all) = adds_one place deed before (more ++ between) is (adds_more before between more one all)

pub adds_both : (before between after : History) → AddsOfSessions before between → AddsOfSessions between after → AddsOfSessions before after
adds_both before between after one (more, are, same) = subst (AddsOfSessions before) (sym same) (adds_more before between more one are)

module _ {C : Type 0} (has : C → History → Type 0) (passes : Passes has) where
  passes_more : (connections : C) (before more : History) → AreOfSessions more → has connections before → has connections (more ++ before)
  passes_more connections before [] all knows = knows
  passes_more connections before (At pause now ∷ more) all knows = absurd all
  passes_more connections before (Ordered ∷ more) all knows = absurd all
  passes_more connections before (Syncs kept ∷ more) all knows = absurd all
  passes_more connections before (GoesOn ∷ more) all knows = absurd all
  passes_more connections before (NoneWaits ∷ more) all knows = absurd all
  passes_more connections before (On place deed ∷ more) (is, all) knows = passes connections (more ++ before) place deed is (passes_more connections before more all knows)

  pub passes_all : (connections : C) (before after : History) → AddsOfSessions before after → has connections before → has connections after
  passes_all connections before after (more, are, same) knows = subst (has connections) (sym same) (passes_more connections before more are knows)

-- ---- what may be read, and told

pub may_read : (there : Option Course) (input output : List ℕ) (since : Option ℕ) (over : Bool) → input ≡ [] → over ≡ false → length output ≤ FULL_OUTPUT → Here there (KeepsCourse input output since over)
    → Here there (λ of. KeepsCourse input output since over of × MayBeRead of)
may_read there input output since over none more few here =
    here_so there (KeepsCourse input output since over) (λ (of : Course). KeepsCourse input output since over of × MayBeRead of)
    (λ (of : Course) (keeps : KeepsCourse input output since over of).
    let size : length of.answered ≡ length of.taken + length output = ap length keeps.output_rest ∙ length-append of.taken output in
    let room : HasRoom of = omega arith in
    (keeps, (keeps.fine, keeps.input_rest ∙ ap (λ (t : List ℕ). of.heard ++ t) none ∙ append-nil of.heard, room, keeps.end ∙ more)))
    here

-- output waits, so it may be offered
pub may_take : (there : Option Course) (input output : List ℕ) (since : Option ℕ) (over : Bool) → output ≢ [] → Here there (KeepsCourse input output since over)
    → Here there (λ of. KeepsCourse input output since over of × MayBeOffered of)
may_take there input output since over some here =
    here_so there (KeepsCourse input output since over) (λ (of : Course). KeepsCourse input output since over of × MayBeOffered of)
    (λ (of : Course) (keeps : KeepsCourse input output since over of). (keeps, (keeps.fine, not_told of input output since over some keeps))) here

-- ---- the turn to send

-- nothing is left to be heard, or the output is full
pub attended : (there : Option Course) (acts : History) (place : ℕ) (input output : List ℕ) (since : Option ℕ) (over : Bool) → (input ≡ []) ⊎ (FULL_OUTPUT < length output)
    → (over ≡ true) ⊎ InRound gives_turn acts place ⊎ (FULL_OUTPUT < length output) → Here there (KeepsCourse input output since over) → Here there (IsAttended acts place)
attended there acts place input output since over all asked here =
    here_so there (KeepsCourse input output since over) (IsAttended acts place) (λ (of : Course) (keeps : KeepsCourse input output since over of). by_case of keeps all asked) here
  where
    full : (of : Course) → KeepsCourse input output since over of → FULL_OUTPUT < length output → IsFull of
    full of keeps more =
        let size : length of.answered ≡ length of.taken + length output = ap length keeps.output_rest ∙ length-append of.taken output in omega arith

    by_case : (of : Course) → KeepsCourse input output since over of → (input ≡ []) ⊎ (FULL_OUTPUT < length output) → (over ≡ true) ⊎ InRound gives_turn acts place ⊎ (FULL_OUTPUT < length output)
        → IsAttended acts place of
    by_case of keeps (inr more) asked = inl (full of keeps more)
    by_case of keeps (inl none) (inl gone) = inr (keeps.input_rest ∙ ap (λ (t : List ℕ). of.heard ++ t) none ∙ append-nil of.heard, inl (keeps.end ∙ gone))
    by_case of keeps (inl none) (inr (inl found)) = inr (keeps.input_rest ∙ ap (λ (t : List ℕ). of.heard ++ t) none ∙ append-nil of.heard, inr found)
    by_case of keeps (inl none) (inr (inr more)) = inl (full of keeps more)

-- nothing may be read, and nothing was heard
pub not_read : (input output : List ℕ) (over : Bool) → ¬ ((input ≡ []) × (over ≡ false) × (length output ≤ FULL_OUTPUT)) → (input ≡ []) ⊎ (FULL_OUTPUT < length output)
    → (over ≡ true) ⊎ (FULL_OUTPUT < length output)
not_read input output true not all = inl refl
not_read input output false not (inr more) = inr more
not_read input output false not (inl none) = by_size (cases_lt FULL_OUTPUT (length output))
  where
    by_size : (FULL_OUTPUT < length output) ⊎ (length output ≤ FULL_OUTPUT) → (false ≡ true) ⊎ (FULL_OUTPUT < length output)
    by_size (inl more) = inr more
    by_size (inr less) = absurd (not (none, refl, less))

-- ---- the turn to take

-- whether a round was synced
pub synced_by : (one other : Bool) → Telling one ≡ Telling other → one ≡ other
synced_by one other same = cc

pub offered : (result : Result Bool Ending) (acts after : History) (place : ℕ) (output : List ℕ) → IfOk result (λ done. InRound offers after place × (was_busy after ≡ done || was_busy acts))
    → IfOk result (λ done. ((output ≡ []) ⊎ InRound offers after place) × (was_busy after ≡ done || was_busy acts))
offered (Ok done) acts after place output (found, busy) = (inr found, busy)
offered (Err why) acts after place output none = tt

pub served : (idle : ℕ) (acts : History) (place : ℕ) (there : Option Course) (talk : Talk) → Here there (KeepsTalk talk) → (talk.output.items ≡ []) ⊎ InRound offers acts place
    → Here there (IsNotDue idle acts) → Here there (IsServed idle acts place)
served idle acts place None talk here told not_due = here
served idle acts place (Some of) talk keeps (inl none) not_due = (inl (keeps.output_rest ∙ ap (λ (t : List ℕ). of.taken ++ t) none ∙ append-nil of.taken), not_due)
served idle acts place (Some of) talk keeps (inr found) not_due = (inr found, not_due)

-- ---- what is so of a place

pub there_here : (there : Option Course) (P : Course → Type 0) → Here there P → IfThere there P
there_here None P here = tt
there_here (Some of) P here = here

pub there_none : (there : Option Course) (P : Course → Type 0) → there ≡ None → IfThere there P
there_none there P none = rw none tt
