-- The messages of a session are those of its own streams.
use Rattle.std.proofs.Common.{◌≡◌, ◌≢◌, ℕ, ◌≤◌, List, [], ◌∷◌, ◌++◌, Bool, true, false, cond, drop, filter, flat_map, length, length-append, map, Option, Some, None, refl, sym, ap, subst, ◌∙◌, append_assoc, arith}
use Rattle.std.proofs.lemmas.Bool.{eqb-true, eqb-false}
use Rattle.std.proofs.lemmas.List.{append-nil, drop-append-le}
use Rattle.std.proofs.Math.Seq.{drop-append_seam}
use Rattle.std.specs.Prelude.{◌==◌, is_some, nat_le}
use Rattle.std.specs.Option.{option_map}
use Rattle.std.specs.Ordering.{nat_cmp}
use Rattle.std.specs.BTreeMap.{is_at}
use Rattle.encoding.specs.Bytes.{joined}
use Rattle.wire.specs.Frames.{Frame}
use Rattle.wire.specs.Streams.{Remainder, Message, Rest, messages, with_more}
use Rattle.wire.proofs.Streams.{with_more-append}
use Rattle.hub.specs.declared.hub_refusal.HubRefusal.{HubRefusal}
use Rattle.hub.specs.declared.hub_refusal.HubRefusal.TheVariants.{TooManySessions, SessionOpen, NoSession}
use Rattle.hub.specs.Events.{Happening, Open, Bytes, End, at_session, due, number}
use Rattle.hub.specs.Laws.{lines_for, messages_of, opened_streams, own_events, own_streams, pieces, stream_messages, RunsTellTheirOwn, SessionsHearTheirOwn}
use Rattle.hub.specs.Runs.{Line, Stream, Streams, asked_by, changed, commands, completed, completed_by, each, told_to, unanswered, with_piece}
use Rattle.hub.proofs.Entries.{lookup_each}
use Rattle.hub.proofs.Once.{ended_once, fresh_once, heard_once, opened_once, other_once, StandsOnce}
use Rattle.hub.proofs.Others.{set_found}
use Rattle.hub.proofs.Outputting.{insert_found, other_stays}
use Rattle.hub.proofs.Running.{of_session}
use Rattle.hub.proofs.Steps.{bytes_changed, bytes_completed}
use Rattle.hub.proofs.Streaming.{messages_more}
use Rattle.hub.specs.declared.sessions.TheConstants.{MAX_SESSIONS}

-- ---- one stream

-- not more messages are answered than came
abbrev IsCounted : Stream → Type 0
IsCounted stream = stream.answered ≤ length (messages stream.came).0

-- the messages that these pieces bring, which come behind what came
abbrev more_messages : Stream → List (List ℕ) → List Message
more_messages stream [] = []
more_messages stream (piece ∷ more) = drop stream.answered (messages (with_more stream.came (joined (piece ∷ more)))).0

fresh_messages : (held : Remainder) (ps : List (List ℕ)) → more_messages (unanswered held) ps ≡ stream_messages (held, ps)
fresh_messages held [] = refl
fresh_messages held (piece ∷ more) = refl

piece_counted : (stream : Stream) (piece : List ℕ) → IsCounted (with_piece stream piece)
piece_counted stream piece = omega arith

-- those of one piece, and then those of the others
piece_more : (stream : Stream) (piece : List ℕ) (ps : List (List ℕ)) → IsCounted stream
    → completed stream piece ++ more_messages (with_piece stream piece) ps ≡ more_messages stream (piece ∷ ps)
piece_more stream piece [] counted =
    append-nil (completed stream piece) ∙ ap (λ (t : List ℕ). drop stream.answered (messages (with_more stream.came t)).0) (sym (append-nil piece))
piece_more stream piece (next ∷ more) counted =
    let count : ℕ = stream.answered in
    let rest : List ℕ = joined (next ∷ more) in
    let came : Remainder = with_more stream.came piece in
    let now : List Message = (messages came).0 in
    let first = messages_more stream.came piece in
    let all = messages_more came rest in
    let few : count ≤ length now = omega (arith, counted, ap length first.1, length-append (messages stream.came).0 first.0) in
    ap (λ (t : List Message). drop count now ++ drop (length now) t) all.1
    ∙ ap (λ (t : List Message). drop count now ++ t) (drop-append_seam now all.0)
    ∙ sym (drop-append-le count now all.0 few)
    ∙ ap (drop count) (sym all.1)
    ∙ ap (λ (h : Remainder). drop count (messages h).0) (with_more-append stream.came piece rest)

-- ---- the messages of one session

pub of_other : (n k : ℕ) (ms : List Message) (rest : List (ℕ × Message)) → (k == n) ≡ false → messages_of n (map (λ message. (k, message)) ms ++ rest) ≡ messages_of n rest
of_other n k [] rest e = refl
of_other n k (m ∷ ms) rest e = rw e (of_other n k ms rest e)

of_same : (n k : ℕ) (ms : List Message) (rest : List (ℕ × Message)) → (k == n) ≡ true → messages_of n (map (λ message. (k, message)) ms ++ rest) ≡ ms ++ messages_of n rest
of_same n k [] rest e = refl
of_same n k (m ∷ ms) rest e = rw e (ap (λ (t : List Message). m ∷ t) (of_same n k ms rest e))

-- ---- the streams of one session

-- what its events bring: first of the stream that is open, and then of those that they open
abbrev later_messages : Option Stream → List Happening → List Message
later_messages None events = flat_map stream_messages (opened_streams events)
later_messages (Some stream) events = more_messages stream (pieces events) ++ flat_map stream_messages (opened_streams events)

abbrev AreCounted : Option Stream → Type 0
AreCounted None = Unit {0}
AreCounted (Some stream) = IsCounted stream

-- the messages of a session are what its own events bring
abbrev HearsOwn : ℕ → Streams → List Happening → Type 0
HearsOwn n streams events = messages_of n (commands streams events) ≡ later_messages (at_session streams n) (own_events n streams events)

nothing_more : (found : Option Stream) → [] ≡ later_messages found []
nothing_more None = refl
nothing_more (Some stream) = refl

pub same_is : (n : ℕ) → (n == n) ≡ true
same_is n = by_test (n == n) refl
  where
    by_test : (b : Bool) → (n == n) ≡ b → b ≡ true
    by_test true e = refl
    by_test false e = absurd (eqb-false n n e refl)

-- an event of another session
other_own : (n : ℕ) (streams : Streams) (it : Happening) (more : List Happening) → due streams it ≡ None → (number it == n) ≡ false → HearsOwn n (changed streams it) more → HearsOwn n streams (it ∷ more)
other_own n streams it more fine e next =
    rw (fine, e) (
    of_other n (number it) (completed_by streams it) (commands (changed streams it) more) e ∙ next
    ∙ ap (λ (found : Option Stream). later_messages found (own_events n (changed streams it) more)) (other_stays streams it n (eqb-false (number it) n e))
    )

refused_other : (n : ℕ) (streams : Streams) (it : Happening) (more : List Happening) (refusal : HubRefusal) → due streams it ≡ Some refusal → (number it == n) ≡ false → HearsOwn n streams more → HearsOwn n streams (it ∷ more)
refused_other n streams it more refusal refused e next = rw (refused, e) next

-- ---- a refused event of the session itself

none_found : (found : Option Stream) (refusal : HubRefusal) → cond (is_some found) None (Some NoSession) ≡ Some refusal → found ≡ None
none_found None refusal e = refl
none_found (Some stream) refusal e = absurd cc

refused_own : (streams : Streams) (it : Happening) (more : List Happening) (refusal : HubRefusal) → due streams it ≡ Some refusal → HearsOwn (number it) streams more → HearsOwn (number it) streams (it ∷ more)
refused_own streams (Open n) more refusal refused next = rw (refused, same_is n) next
refused_own streams (Bytes n piece) more refusal refused next =
    let none : at_session streams n ≡ None = none_found (at_session streams n) refusal refused in
    rw (refused, same_is n, none) (next ∙ ap (λ (found : Option Stream). later_messages found (own_events n streams more)) none)
refused_own streams (End n) more refusal refused next =
    let none : at_session streams n ≡ None = none_found (at_session streams n) refusal refused in
    rw (refused, same_is n, none) (next ∙ ap (λ (found : Option Stream). later_messages found (own_events n streams more)) none)

-- ---- another event of the session itself

open_finds : (full : Bool) (found : Option Stream) → cond full (Some TooManySessions) (cond (is_some found) (Some SessionOpen) None) ≡ None → found ≡ None
open_finds true found e = absurd cc
open_finds false None e = refl
open_finds false (Some stream) e = absurd cc

some_found : (found : Option Stream) → cond (is_some found) None (Some NoSession) ≡ None → (stream : Stream) × (found ≡ Some stream)
some_found None e = absurd cc
some_found (Some stream) e = (stream, refl)

open_own : (n : ℕ) (streams : Streams) (more : List Happening) → due streams (Open n) ≡ None → HearsOwn n (changed streams (Open n)) more → HearsOwn n streams (Open n ∷ more)
open_own n streams more fine next =
    let new : Stream = unanswered (Rest []) in
    let later : List Happening = own_events n (changed streams (Open n)) more in
    let none : at_session streams n ≡ None = open_finds (nat_le MAX_SESSIONS (length streams)) (at_session streams n) fine in
    rw (fine, same_is n, none) (
    next ∙ ap (λ (found : Option Stream). later_messages found later) (insert_found streams n new)
    ∙ ap (λ (t : List Message). t ++ flat_map stream_messages (opened_streams later)) (fresh_messages (Rest []) (pieces later))
    )

bytes_own : (n : ℕ) (streams : Streams) (piece : List ℕ) (more : List Happening) → due streams (Bytes n piece) ≡ None → AreCounted (at_session streams n) → HearsOwn n (changed streams (Bytes n piece)) more
    → HearsOwn n streams (Bytes n piece ∷ more)
bytes_own n streams piece more fine counted next =
    let s = some_found (at_session streams n) fine in
    let stream : Stream = s.0 in
    let later : List Happening = own_events n (changed streams (Bytes n piece)) more in
    let rest : List Message = flat_map stream_messages (opened_streams later) in
    let now : at_session (changed streams (Bytes n piece)) n ≡ Some (with_piece stream piece) =
    ap (λ (m : Streams). at_session m n) (bytes_changed streams n piece stream s.1) ∙ set_found (is_at (nat_cmp n)) streams (with_piece stream piece) stream s.1
    in
    let heard : messages_of n (of_session (Bytes n piece) (completed_by streams (Bytes n piece)) ++ commands (changed streams (Bytes n piece)) more)
    ≡ more_messages stream (piece ∷ pieces later) ++ rest =
    of_same n n (completed_by streams (Bytes n piece)) (commands (changed streams (Bytes n piece)) more) (same_is n)
    ∙ ap (λ (t : List Message). t ++ messages_of n (commands (changed streams (Bytes n piece)) more)) (bytes_completed streams n piece stream s.1)
    ∙ ap (λ (t : List Message). completed stream piece ++ t) (next ∙ ap (λ (found : Option Stream). later_messages found later) now)
    ∙ sym (append_assoc (completed stream piece) (more_messages (with_piece stream piece) (pieces later)) rest)
    ∙ ap (λ (t : List Message). t ++ rest) (piece_more stream piece (pieces later) (subst AreCounted s.1 counted))
    in
    rw (fine, same_is n) (heard ∙ ap (λ (found : Option Stream). later_messages found (Bytes n piece ∷ later)) (sym s.1))

end_own : (n : ℕ) (streams : Streams) (more : List Happening) → due streams (End n) ≡ None → StandsOnce n streams → HearsOwn n (changed streams (End n)) more → HearsOwn n streams (End n ∷ more)
end_own n streams more fine once next =
    let s = some_found (at_session streams n) fine in
    let later : List Happening = own_events n (changed streams (End n)) more in
    rw (fine, same_is n) (
    next ∙ ap (λ (found : Option Stream). later_messages found later) once
    ∙ ap (λ (found : Option Stream). later_messages found (End n ∷ later)) (sym s.1)
    )

-- ---- all events

-- what is kept from event to event
abbrev Kept : ℕ → Streams → Type 0
Kept n streams = StandsOnce n streams × AreCounted (at_session streams n)

own_kept : (streams : Streams) (it : Happening) → due streams it ≡ None → Kept (number it) streams → Kept (number it) (changed streams it)
own_kept streams (Open n) fine (once, counted) = (
  opened_once streams n (unanswered (Rest [])) (open_finds (nat_le MAX_SESSIONS (length streams)) (at_session streams n) fine),
  subst AreCounted (sym (insert_found streams n (unanswered (Rest [])))) (omega arith),
)
own_kept streams (Bytes n piece) fine (once, counted) =
    let s = some_found (at_session streams n) fine in
    subst (Kept n) (sym (bytes_changed streams n piece s.0 s.1)) (
      heard_once streams n (with_piece s.0 piece) once,
      subst AreCounted (sym (set_found (is_at (nat_cmp n)) streams (with_piece s.0 piece) s.0 s.1)) (piece_counted s.0 piece),
    )
own_kept streams (End n) fine (once, counted) = (ended_once streams n once, subst AreCounted (sym once) tt)

done_kept : (n : ℕ) (streams : Streams) (it : Happening) → due streams it ≡ None → Kept n streams → Kept n (changed streams it)
done_kept n streams it fine kept = by_test (number it == n) refl
  where
    by_test : (b : Bool) → (number it == n) ≡ b → Kept n (changed streams it)
    by_test true e =
        let same : number it ≡ n = eqb-true (number it) n e in
        subst (λ (k : ℕ). Kept k streams → Kept k (changed streams it)) same (own_kept streams it fine) kept
    by_test false e =
        let differ : number it ≢ n = eqb-false (number it) n e in
        (other_once streams it n differ kept.0, subst AreCounted (sym (other_stays streams it n differ)) kept.1)

own_own : (streams : Streams) (it : Happening) (more : List Happening) → due streams it ≡ None → Kept (number it) streams → HearsOwn (number it) (changed streams it) more → HearsOwn (number it) streams (it ∷ more)
own_own streams (Open n) more fine kept next = open_own n streams more fine next
own_own streams (Bytes n piece) more fine kept next = bytes_own n streams piece more fine kept.1 next
own_own streams (End n) more fine kept next = end_own n streams more fine kept.0 next

one_own : (n : ℕ) (streams : Streams) (it : Happening) (more : List Happening) (found : Option HubRefusal) → due streams it ≡ found → Kept n streams → HearsOwn n streams more
    → (Kept n (changed streams it) → HearsOwn n (changed streams it) more) → HearsOwn n streams (it ∷ more)
one_own n streams it more None fine kept _ done = by_test (number it == n) refl (done (done_kept n streams it fine kept))
  where
    by_test : (b : Bool) → (number it == n) ≡ b → HearsOwn n (changed streams it) more → HearsOwn n streams (it ∷ more)
    by_test true e next =
        let same : number it ≡ n = eqb-true (number it) n e in
        subst (λ (k : ℕ). Kept k streams → HearsOwn k (changed streams it) more → HearsOwn k streams (it ∷ more)) same (own_own streams it more fine) kept next
    by_test false e next = other_own n streams it more fine e next
one_own n streams it more (Some refusal) refused kept next _ = by_test (number it == n) refl
  where
    by_test : (b : Bool) → (number it == n) ≡ b → HearsOwn n streams (it ∷ more)
    by_test true e =
        let same : number it ≡ n = eqb-true (number it) n e in
        subst (λ (k : ℕ). HearsOwn k streams more → HearsOwn k streams (it ∷ more)) same (refused_own streams it more refusal refused) next
    by_test false e = refused_other n streams it more refusal refused e next

hears_own : (n : ℕ) (streams : Streams) (events : List Happening) → Kept n streams → HearsOwn n streams events
hears_own n streams [] kept = nothing_more (at_session streams n)
hears_own n streams (it ∷ more) kept = one_own n streams it more (due streams it) refl kept (hears_own n streams more kept) (hears_own n (changed streams it) more)

-- ---- the law

fresh_counted : (found : Option Remainder) → AreCounted (option_map unanswered found)
fresh_counted None = tt
fresh_counted (Some held) = omega arith

fresh_streams : (found : Option Remainder) (events : List Happening) → later_messages (option_map unanswered found) events ≡ flat_map stream_messages (own_streams found events)
fresh_streams None events = refl
fresh_streams (Some held) events = ap (λ (t : List Message). t ++ flat_map stream_messages (opened_streams events)) (fresh_messages held (pieces events))

pub sessions_hear : SessionsHearTheirOwn
sessions_hear session sessions events up =
    let streams : Streams = each unanswered sessions in
    let found : at_session streams session ≡ option_map unanswered (at_session sessions session) = lookup_each unanswered (is_at (nat_cmp session)) sessions in
    hears_own session streams events (fresh_once sessions session up, subst AreCounted (sym found) (fresh_counted (at_session sessions session)))
    ∙ ap (λ (s : Option Stream). later_messages s (own_events session streams events)) found
    ∙ fresh_streams (at_session sessions session) (own_events session streams events)

-- ---- runs

pub own_asked : (n : ℕ) (ls : List Line) → map (λ line. line.message) (lines_for n ls) ≡ messages_of n (map asked_by ls)
own_asked n [] = refl
own_asked n (line ∷ ls) = by_test (line.session == n) (own_asked n ls)
  where
    by_test : (b : Bool) → map (λ line. line.message) (lines_for n ls) ≡ messages_of n (map asked_by ls)
        → map (λ line. line.message) (cond b (line ∷ lines_for n ls) (lines_for n ls)) ≡ map (λ one. one.1) (cond b (asked_by line ∷ filter (λ one. one.0 == n) (map asked_by ls)) (filter (λ one. one.0 == n) (map asked_by ls)))
    by_test true next = ap (λ (t : List Message). line.message ∷ t) next
    by_test false next = next

pub own_told : (n : ℕ) (ls : List Line) → told_to n ls ≡ flat_map (λ line. line.reply) (lines_for n ls)
own_told n [] = refl
own_told n (line ∷ ls) = by_test (line.session == n) (own_told n ls)
  where
    by_test : (b : Bool) → told_to n ls ≡ flat_map (λ line. line.reply) (lines_for n ls)
        → cond b line.reply [] ++ told_to n ls ≡ flat_map (λ line. line.reply) (cond b (line ∷ lines_for n ls) (lines_for n ls))
    by_test true next = ap (λ (t : List ℕ). line.reply ++ t) next
    by_test false next = next

pub runs_tell : {S : Type 0} (answers : S → Frame → List ℕ → S → Type 0) → RunsTellTheirOwn answers
runs_tell answers session before after events ls up run =
    (own_asked session ls ∙ ap (messages_of session) run.messages ∙ sessions_hear session before.sessions events up, own_told session ls)
