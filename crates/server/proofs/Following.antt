-- What the session of each connection was answered so far, and what it holds.
use Rattle.std.proofs.Common.{◌≡◌, ◌≢◌, ℕ, List, [], ◌∷◌, ◌++◌, Bool, true, false, cond, Option, Some, None, refl, sym, ap, subst, ◌∙◌, append_assoc, append-nil, inl, inr}
use Rattle.std.proofs.lemmas.Bool.{eqb-true, eqb-false, false≢true}
use Rattle.std.proofs.lemmas.List.{map-append}
use Rattle.std.proofs.lemmas.List.Elements.{filter-append}
use Rattle.std.specs.Prelude.{◌==◌, ⊤}
use Rattle.std.specs.Ordering.{nat_cmp}
use Rattle.std.specs.BTreeMap.{is_at, insert_entry}
use Rattle.wire.specs.Frames.{Frame}
use Rattle.wire.specs.Streams.{Remainder, Message, Rest, with_more, IsSpent, TellsMessages}
use Rattle.wire.proofs.Streams.{nothing_yet, tells-append, tells-more}
use Rattle.hub.specs.Events.{BySession, Bytes, End, HubState, at_session}
use Rattle.hub.specs.Exchanges.{Exchange, exchange_messages, replies}
use Rattle.hub.specs.Happenings.{Answered, DoesUnlessRefused}
use Rattle.hub.specs.Laws.{lines_for}
use Rattle.hub.specs.Runs.{lines, told_to, Line}
use Rattle.hub.proofs.Others.{insert_other, remove_other, set_found, set_other}
use Rattle.hub.proofs.Outputting.{apart, insert_found, not_here}
use Rattle.hub.proofs.Owning.{same_is}
use Rattle.hub.proofs.Running.{told_more}
use Rattle.hub.proofs.Steps.{exchanges_tell}
use Rattle.hub.proofs.Streaming.{told_all}
use Rattle.connections.specs.declared.ending.SessionFault.TheVariants as fault
use Rattle.connections.specs.Histories.{At, Ordered, GoesOn, Syncs, NoneWaits, On, Deed, Comes, Opens, Refuses, Reads, IsOver, IsSilent, Hears, Misses, Lacks, Takes, TakesNone, Fails, Ends, Closes, History, Course, course, done_at}
use Rattle.connections.specs.Soundness.{Here, IsNew, IsSoundHistory, MayHear}
use Rattle.connections.proofs.Steps.{rested_so}
use Rattle.server.specs.Serving.{spelled}
use Rattle.server.specs.Sessions.{AreLines, Ended, IsAnsweredBy, Loses, Opened, Proceeds}

-- ---- lines of a session

lines_append : (k : ℕ) (xs ys : List Exchange) → lines k (xs ++ ys) ≡ lines k xs ++ lines k ys
lines_append k [] ys = refl
lines_append k (x ∷ xs) ys = ap (λ (t : List Line). record { session = k; message = x.message; reply = x.reply } ∷ t) (lines_append k xs ys)

lines_among : (b : Bool) (n k : ℕ) (xs : List Exchange) → (k == n) ≡ b → lines_for n (lines k xs) ≡ cond b (lines k xs) []
lines_among true n k [] e = refl
lines_among false n k [] e = refl
lines_among true n k (x ∷ xs) e = rw (e, lines_among true n k xs e) refl
lines_among false n k (x ∷ xs) e = rw (e, lines_among false n k xs e) refl

lines_more : (n k : ℕ) (ls : List Line) (xs : List Exchange) (b : Bool) → (k == n) ≡ b → lines_for n (ls ++ lines k xs) ≡ lines_for n ls ++ cond b (lines k xs) []
lines_more n k ls xs b e = filter-append (λ (line : Line). line.session == n) ls (lines k xs) ∙ ap (λ (t : List Line). lines_for n ls ++ t) (lines_among b n k xs e)

told_by : (n k : ℕ) (ls : List Line) (xs : List Exchange) (b : Bool) → (k == n) ≡ b → told_to n (ls ++ lines k xs) ≡ told_to n ls ++ cond b (replies xs) []
told_by n k ls xs b e = told_more n k ls xs ∙ ap (λ (t : Bool). told_to n ls ++ cond t (replies xs) []) e

-- nothing is heard
spelled_none : spelled [] ≡ []
spelled_none = ap (λ (m : List Message × Remainder). m.0) (told_all (Rest []) [] (Rest []) refl nothing_yet)

tells_none : TellsMessages (Rest []) (spelled []) (Rest [])
tells_none = subst (λ (told : List Message). TellsMessages (Rest []) told (Rest [])) (sym spelled_none) refl

-- ---- what a session was answered

-- lines of another session
others_lines : (all : List Line) (other place : ℕ) (xs : List Exchange) (there : Option Course) → other ≢ place → IsAnsweredBy all place there → IsAnsweredBy (all ++ lines other xs) place there
others_lines all other place xs None differ answered = tt
others_lines all other place xs (Some of) differ (past, own, ys, lost, split, is, spells, tells, fine) =
    let e : (other == place) ≡ false = differs (other == place) refl in (
      past,
      own ++ lines other xs,
      ys,
      lost,
      ap (λ (t : List Line). t ++ lines other xs) split ∙ append_assoc past own (lines other xs),
      lines_more place other own xs false e ∙ append-nil (lines_for place own) ∙ is,
      spells,
      told_by place other own xs false e ∙ append-nil (told_to place own) ∙ tells,
      fine,
    )
  where
    differs : (b : Bool) → (other == place) ≡ b → b ≡ false
    differs true e = absurd (differ (eqb-true other place e))
    differs false e = refl

-- lines of the session, which stand behind those of what it heard
own_lines : (all : List Line) (place : ℕ) (xs : List Exchange) (of : Course) → IsAnsweredBy all place (Some of) → of.is_wanting ≡ false
    → (past own : List Line) × (ys : List Exchange) × (all ++ lines place xs ≡ past ++ own) × (lines_for place own ≡ lines place (ys ++ xs)) × (spelled of.heard ≡ exchange_messages ys)
    × (told_to place own ≡ of.answered ++ replies xs)
own_lines all place xs of (past, own, ys, lost, split, is, spells, tells, none) fine = (
  past,
  own ++ lines place xs,
  ys,
  ap (λ (t : List Line). t ++ lines place xs) split ∙ append_assoc past own (lines place xs),
  lines_more place place own xs true (same_is place)
      ∙ ap (λ (t : List Line). t ++ lines place xs) (is ∙ ap (λ (t : List Exchange). lines place (ys ++ t)) (none fine) ∙ ap (lines place) (append-nil ys)) ∙ sym (lines_append place ys xs),
  spells,
  told_by place place own xs true (same_is place)
      ∙ ap (λ (t : List ℕ). t ++ replies xs) (tells ∙ ap (λ (t : List Exchange). of.answered ++ replies t) (none fine) ∙ append-nil of.answered),
)

-- memory is wanting
wanting : (all : List Line) (place : ℕ) (of : Course) → IsAnsweredBy all place (Some of) → IsAnsweredBy all place (Some (record of { is_wanting = true }))
wanting all place of (past, own, ys, lost, split, is, spells, tells, none) = (past, own, ys, lost, split, is, spells, tells, λ fine. absurd (false≢true (sym fine)))

module _ {S : Type 0} (answers : S → Frame → List ℕ → S → Type 0) where
  -- ---- what a session holds

  -- what is left of the bytes that it heard, in which no whole message waits, as long as it is open and
  -- memory was not wanting
  abbrev Holds : HubState S → ℕ → Course → Type 0
  Holds hub place of = of.is_open ≡ true → of.is_wanting ≡ false
      → (held : Remainder) × (at_session hub.sessions place ≡ Some held) × IsSpent held × TellsMessages (Rest of.heard) (spelled of.heard) held

  abbrev pub Follows : HubState S → List Line → ℕ → Option Course → Type 0
  Follows hub all place None = ⊤
  Follows hub all place (Some of) = IsAnsweredBy all place (Some of) × Holds hub place of

  pub is_answered : (hub : HubState S) (all : List Line) (place : ℕ) (there : Option Course) → Follows hub all place there → IsAnsweredBy all place there
  is_answered hub all place None follows = tt
  is_answered hub all place (Some of) follows = follows.0

  -- of each connection
  abbrev pub AllFollow : HubState S → List Line → History → Type 0
  AllFollow hub all acts = (place : ℕ) → Follows hub all place (course acts place)

  -- a deed at a place: what is so there, and what is so of another
  at_place : (P : ℕ → Option Course → Type 0) (deed : Deed) (acts : History) (other place : ℕ) (here : Bool) → (other == place) ≡ here
      → P other (done_at deed (course acts other)) → (other ≢ place → P place (course acts place)) → P place (course (On other deed ∷ acts) place)
  at_place P deed acts other place true is same differs = rw is (subst (λ (n : ℕ). P n (done_at deed (course acts n))) (eqb-true other place is) same)
  at_place P deed acts other place false is same differs = rw is (differs (eqb-false other place is))

  -- a session that is not concerned, with lines of another one
  elsewhere : (before after : HubState S) (all : List Line) (other place : ℕ) (xs : List Exchange) (there : Option Course) → other ≢ place → at_session after.sessions place ≡ at_session before.sessions place
      → Follows before all place there → Follows after (all ++ lines other xs) place there
  elsewhere before after all other place xs None differ same follows = tt
  elsewhere before after all other place xs (Some of) differ same (answered, holds) =
      (others_lines all other place xs (Some of) differ answered, λ opened fine. let kept = holds opened fine in (kept.0, same ∙ kept.1, kept.2, kept.3))

  -- the same, with no lines
  aside : (before after : HubState S) (all : List Line) (other place : ℕ) (there : Option Course) → other ≢ place → at_session after.sessions place ≡ at_session before.sessions place
      → Follows before all place there → Follows after all place there
  aside before after all other place there differ same follows =
      subst (λ (t : List Line). Follows after t place there) (append-nil all) (elsewhere before after all other place [] there differ same follows)

  -- ---- deeds that leave the session

  abbrev IsStill : Deed → Type 0
  IsStill Comes = ⊤
  IsStill Opens = ⊥
  IsStill (Refuses why) = ⊤
  IsStill (Reads bytes) = ⊤
  IsStill IsOver = ⊤
  IsStill IsSilent = ⊤
  IsStill (Hears part reply) = ⊥
  IsStill (Misses part fault.Memory) = ⊥
  IsStill (Misses part fault.Refused) = ⊤
  IsStill Lacks = ⊤
  IsStill (Takes bytes) = ⊤
  IsStill TakesNone = ⊤
  IsStill Fails = ⊤
  IsStill Ends = ⊥
  IsStill (Closes why) = ⊤

  begun : (hub : HubState S) (all : List Line) (place : ℕ) (there : Option Course) → Follows hub all place (done_at Comes there)
  begun hub all place None = ((all, [], [], [], sym (append-nil all), refl, spelled_none, refl, λ fine. refl), λ opened fine. absurd (false≢true opened))
  begun hub all place (Some of) = ((all, [], [], [], sym (append-nil all), refl, spelled_none, refl, λ fine. refl), λ opened fine. absurd (false≢true opened))

  still : (hub : HubState S) (all : List Line) (place : ℕ) (deed : Deed) (there : Option Course) → IsStill deed → Follows hub all place there → Follows hub all place (done_at deed there)
  still hub all place Comes there is follows = begun hub all place there
  still hub all place Opens there is follows = absurd is
  still hub all place (Refuses why) None is follows = tt
  still hub all place (Refuses fault.Memory) (Some of) is follows = (wanting all place of follows.0, λ opened fine. absurd (false≢true (sym fine)))
  still hub all place (Refuses fault.Refused) (Some of) is follows = follows
  still hub all place (Reads bytes) None is follows = tt
  still hub all place (Reads bytes) (Some of) is follows = follows
  still hub all place IsOver None is follows = tt
  still hub all place IsOver (Some of) is follows = follows
  still hub all place IsSilent None is follows = tt
  still hub all place IsSilent (Some of) is follows = follows
  still hub all place (Hears part reply) there is follows = absurd is
  still hub all place (Misses part fault.Memory) there is follows = absurd is
  still hub all place (Misses part fault.Refused) None is follows = tt
  still hub all place (Misses part fault.Refused) (Some of) is follows = follows
  still hub all place Lacks None is follows = tt
  still hub all place Lacks (Some of) is follows = (wanting all place of follows.0, λ opened fine. absurd (false≢true (sym fine)))
  still hub all place (Takes bytes) None is follows = tt
  still hub all place (Takes bytes) (Some of) is follows = follows
  still hub all place TakesNone None is follows = tt
  still hub all place TakesNone (Some of) is follows = follows
  still hub all place Fails None is follows = tt
  still hub all place Fails (Some of) is follows = follows
  still hub all place Ends there is follows = absurd is
  still hub all place (Closes why) None is follows = tt
  still hub all place (Closes why) (Some of) is follows = tt

  still_at : (hub : HubState S) (all : List Line) (deed : Deed) (acts : History) (other : ℕ) → IsStill deed → AllFollow hub all acts → AllFollow hub all (On other deed ∷ acts)
  still_at hub all deed acts other is follows = λ place.
      at_place (Follows hub all) deed acts other place (other == place) refl (still hub all other deed (course acts other) is (follows other)) (λ differ. follows place)

  -- ---- one event

  opened_at : (before after : HubState S) (all : List Line) (acts : History) (other : ℕ) → Opened answers before other after → Here (course acts other) IsNew → AllFollow before all acts → AllFollow after all (On other Opens ∷ acts)
  opened_at before after all acts other (due, (none, does)) new follows = λ place.
      at_place (Follows after all) Opens acts other place (other == place) refl (here (course acts other) new (follows other))
      (λ differ. aside before after all other place (course acts place) differ
      (sessions place ∙ insert_other other (is_at (nat_cmp place)) (not_here other place differ) (apart other place differ) before.sessions (Rest [])) (follows place))
    where
      sessions : (place : ℕ) → at_session after.sessions place ≡ at_session (insert_entry nat_cmp before.sessions other (Rest [])) place
      sessions place = ap (λ (hub : HubState S). at_session hub.sessions place) does

      here : (there : Option Course) → Here there IsNew → Follows before all other there → Follows after all other (done_at Opens there)
      here None new follows = tt
      here (Some of) new follows = (
        follows.0,
        λ opened fine. (
          Rest [],
          sessions other ∙ insert_found before.sessions other (Rest []),
          nothing_yet,
          subst (λ (h : List ℕ). TellsMessages (Rest h) (spelled h) (Rest [])) (sym (ap (λ (c : Course). c.heard) new)) tells_none,
        ),
      )

  -- a session that takes a piece leaves the others
  answered_other : (before after : HubState S) (other place : ℕ) (piece : List ℕ) (all : Bool) (xs : List Exchange) → other ≢ place → Answered answers before other piece all xs after
      → at_session after.sessions place ≡ at_session before.sessions place
  answered_other before after other place piece all xs differ (held, left, there, set, exchanged, leaves) =
      ap (λ (m : BySession Remainder). at_session m place) set ∙ set_other (is_at (nat_cmp other)) (is_at (nat_cmp place)) (apart other place differ) before.sessions left

  heard_at : (before after : HubState S) (all : List Line) (acts : History) (other : ℕ) (part reply : List ℕ) (xs : List Exchange) (Time : Type 0) → Proceeds answers before (Bytes other part) xs after → reply ≡ replies xs
      → Here (course acts other) (λ of. MayHear of part × Time) → AllFollow before all acts → AllFollow after (all ++ lines other xs) (On other (Hears part reply) ∷ acts)
  heard_at before after all acts other part reply xs Time (due, answered) is may follows = λ place.
      at_place (Follows after (all ++ lines other xs)) (Hears part reply) acts other place (other == place) refl (here answered (course acts other) may (follows other))
      (λ differ. elsewhere before after all other place xs (course acts place) differ (answered_other before after other place part true xs differ answered) (follows place))
    where
      here : Answered answers before other part true xs after → (there : Option Course) → Here there (λ of. MayHear of part × Time) → Follows before all other there
          → Follows after (all ++ lines other xs) other (done_at (Hears part reply) there)
      here answered None may follows = tt
      here (now, left, there, set, exchanged, spent_left) (Some of) ((well, room, some, next), time) (answered, holds) =
          let (held, held_there, spent, tells) = holds well.0 well.1.1 in
          let same : now ≡ held = (let e : Some now ≡ Some held = sym there ∙ held_there in cc) in
          let more : TellsMessages (with_more held part) (exchange_messages xs) left = subst (λ (h : Remainder). TellsMessages (with_more h part) (exchange_messages xs) left) same (exchanges_tell answers before.service (with_more now part) xs after.service left exchanged) in
          let all_told : TellsMessages (Rest (of.heard ++ part)) (spelled of.heard ++ exchange_messages xs) left =
          tells-append (Rest (of.heard ++ part)) (spelled of.heard) (with_more held part) (exchange_messages xs) left (tells-more (Rest of.heard) (spelled of.heard) held part tells) more in
          let spells : spelled (of.heard ++ part) ≡ spelled of.heard ++ exchange_messages xs =
          ap (λ (m : List Message × Remainder). m.0) (told_all (Rest (of.heard ++ part)) (spelled of.heard ++ exchange_messages xs) left all_told spent_left) in
          let (past, own, ys, split, lines_are, before_spells, told_are) = own_lines all other xs of answered well.1.1 in (
            (
              past,
              own,
              ys ++ xs,
              [],
              split,
              lines_are ∙ ap (lines other) (sym (append-nil (ys ++ xs))),
              spells ∙ ap (λ (t : List Message). t ++ exchange_messages xs) before_spells ∙ sym (map-append (λ (x : Exchange). x.message) ys xs),
              told_are ∙ ap (λ (t : List ℕ). of.answered ++ t) (sym is) ∙ sym (append-nil (of.answered ++ reply)),
              λ fine. refl,
            ),
            λ opened fine. (
              left,
              ap (λ (m : BySession Remainder). at_session m other) set ∙ set_found (is_at (nat_cmp other)) before.sessions left now there,
              spent_left,
              subst (λ (told : List Message). TellsMessages (Rest (of.heard ++ part)) told left) (sym spells) all_told,
            ),
          )

  lost_at : (before after : HubState S) (all : List Line) (acts : History) (other : ℕ) (part : List ℕ) (xs : List Exchange) (Time : Type 0) → Loses answers before other part xs after
      → Here (course acts other) (λ of. MayHear of part × Time) → AllFollow before all acts → AllFollow after (all ++ lines other xs) (On other (Misses part fault.Memory) ∷ acts)
  lost_at before after all acts other part xs Time loses may follows = λ place.
      at_place (Follows after (all ++ lines other xs)) (Misses part fault.Memory) acts other place (other == place) refl (here (course acts other) may (follows other))
      (λ differ. elsewhere before after all other place xs (course acts place) differ (others place loses differ) (follows place))
    where
      here : (there : Option Course) → Here there (λ of. MayHear of part × Time) → Follows before all other there
          → Follows after (all ++ lines other xs) other (done_at (Misses part fault.Memory) there)
      here None may follows = tt
      here (Some of) ((well, room, some, next), time) (answered, holds) =
          let (past, own, ys, split, lines_are, spells, told_are) = own_lines all other xs of answered well.1.1 in
          ((past, own, ys, xs, split, lines_are, spells, told_are, λ fine. absurd (false≢true (sym fine))), λ opened fine. absurd (false≢true (sym fine)))

      others : (place : ℕ) → Loses answers before other part xs after → other ≢ place → at_session after.sessions place ≡ at_session before.sessions place
      others place (inl (due, takes, none, same)) differ = ap (λ (hub : HubState S). at_session hub.sessions place) same
      others place (inr answered) differ = answered_other before after other place part false xs differ answered

  ended_at : (before after : HubState S) (all : List Line) (acts : History) (other : ℕ) → Ended answers before other after → AllFollow before all acts → AllFollow after all (On other Ends ∷ acts)
  ended_at before after all acts other ended follows = λ place.
      at_place (Follows after all) Ends acts other place (other == place) refl (here (course acts other) (follows other)) (λ differ. aside before after all other place (course acts place) differ (others place ended differ) (follows place))
    where
      here : (there : Option Course) → Follows before all other there → Follows after all other (done_at Ends there)
      here None follows = tt
      here (Some of) follows = (follows.0, λ opened fine. absurd (false≢true opened))

      passed : (place : ℕ) → DoesUnlessRefused answers before (End other) [] after → other ≢ place → at_session after.sessions place ≡ at_session before.sessions place
      passed place (inl (refusal, due, none, same)) differ = ap (λ (hub : HubState S). at_session hub.sessions place) same
      passed place (inr (due, (none, does))) differ =
          ap (λ (hub : HubState S). at_session hub.sessions place) does ∙ remove_other (is_at (nat_cmp other)) (is_at (nat_cmp place)) (apart other place differ) before.sessions

      others : (place : ℕ) → Ended answers before other after → other ≢ place → at_session after.sessions place ≡ at_session before.sessions place
      others place (inl passes) differ = passed place passes differ
      others place (inr (much, same)) differ = ap (λ (hub : HubState S). at_session hub.sessions place) same

  -- ---- a history

  pub all_follow : (start : HubState S) (idle : ℕ) (acts : History) (after : HubState S) (all : List Line) → AreLines answers start acts after all → IsSoundHistory idle acts → AllFollow after all acts
  all_follow start idle [] after all are sound = λ place. tt
  all_follow start idle (At pause now ∷ acts) after all are sound = λ place. rested_so now (course acts place) (Follows after all place) (λ of follows. follows) (all_follow start idle acts after all are sound.1 place)
  all_follow start idle (Ordered ∷ acts) after all are sound = all_follow start idle acts after all are sound
  all_follow start idle (Syncs kept ∷ acts) after all are sound = all_follow start idle acts after all are sound.1
  all_follow start idle (GoesOn ∷ acts) after all are sound = all_follow start idle acts after all are sound.1
  all_follow start idle (NoneWaits ∷ acts) after all are sound = all_follow start idle acts after all are sound.1
  all_follow start idle (On other Comes ∷ acts) after all are sound = still_at after all Comes acts other tt (all_follow start idle acts after all are sound.1)
  all_follow start idle (On other Opens ∷ acts) after all (middle, are, opened) sound = opened_at middle after all acts other opened sound.0.0 (all_follow start idle acts middle all are sound.1)
  all_follow start idle (On other (Refuses why) ∷ acts) after all (are, refuses) sound = still_at after all (Refuses why) acts other tt (all_follow start idle acts after all are sound.1)
  all_follow start idle (On other (Reads bytes) ∷ acts) after all are sound = still_at after all (Reads bytes) acts other tt (all_follow start idle acts after all are sound.1)
  all_follow start idle (On other IsOver ∷ acts) after all are sound = still_at after all IsOver acts other tt (all_follow start idle acts after all are sound.1)
  all_follow start idle (On other IsSilent ∷ acts) after all are sound = still_at after all IsSilent acts other tt (all_follow start idle acts after all are sound.1)
  all_follow start idle (On other (Hears part reply) ∷ acts) after all (middle, first, xs, are, proceeds, is, one, joined) sound =
      subst (λ (t : List Line). AllFollow after t (On other (Hears part reply) ∷ acts)) (sym joined) (heard_at middle after first acts other part reply xs _ proceeds is sound.0.0 (all_follow start idle acts middle first are sound.1))
  all_follow start idle (On other (Misses part fault.Memory) ∷ acts) after all (middle, first, lost, are, loses, joined) sound =
      subst (λ (t : List Line). AllFollow after t (On other (Misses part fault.Memory) ∷ acts)) (sym joined) (lost_at middle after first acts other part lost _ loses sound.0.0 (all_follow start idle acts middle first are sound.1))
  all_follow start idle (On other (Misses part fault.Refused) ∷ acts) after all (are, refused) sound = still_at after all (Misses part fault.Refused) acts other tt (all_follow start idle acts after all are sound.1)
  all_follow start idle (On other Lacks ∷ acts) after all are sound = still_at after all Lacks acts other tt (all_follow start idle acts after all are sound.1)
  all_follow start idle (On other (Takes bytes) ∷ acts) after all are sound = still_at after all (Takes bytes) acts other tt (all_follow start idle acts after all are sound.1)
  all_follow start idle (On other TakesNone ∷ acts) after all are sound = still_at after all TakesNone acts other tt (all_follow start idle acts after all are sound.1)
  all_follow start idle (On other Fails ∷ acts) after all are sound = still_at after all Fails acts other tt (all_follow start idle acts after all are sound.1)
  all_follow start idle (On other Ends ∷ acts) after all (middle, are, ended) sound = ended_at middle after all acts other ended (all_follow start idle acts middle all are sound.1)
  all_follow start idle (On other (Closes why) ∷ acts) after all are sound = still_at after all (Closes why) acts other tt (all_follow start idle acts after all are sound.1)
