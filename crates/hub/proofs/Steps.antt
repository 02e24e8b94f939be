-- What an event does to what sessions hold is what it does to their streams.
use Rattle.std.proofs.Common.{◌≡◌, ℕ, List, [], ◌∷◌, ◌++◌, Bool, true, length, drop, Option, Some, None, refl, sym, ap, subst, ◌∙◌, append_assoc}
use Rattle.std.proofs.Math.Seq.{drop-append_seam}
use Rattle.std.specs.Option.{option_map}
use Rattle.std.specs.Ordering.{nat_cmp}
use Rattle.std.specs.BTreeMap.{is_at, insert_entry}
use Rattle.std.specs.Map.{remove_entry, set_value}
use Rattle.wire.specs.Frames.{Frame}
use Rattle.wire.specs.Streams.{Remainder, Message, Rest, messages, messages_within, with_more, IsSpent, TellsMessages}
use Rattle.wire.proofs.Streams.{tells-append, tells-more}
use Rattle.hub.specs.Events.{BySession, Happening, Open, Bytes, End, HubState, at_session, due, number}
use Rattle.hub.specs.Exchanges.{Exchange, Exchanges, exchange_messages}
use Rattle.hub.specs.Happenings.{Answered, Does}
pub use Rattle.hub.specs.Runs.{lines}
use Rattle.hub.specs.Runs.{Stream, Streams, changed, completed, completed_by, each, rest_of, unanswered, with_piece, AllAnswered}
use Rattle.hub.proofs.Entries.{due_each, insert_each, lookup_each, remove_each, set_each, all_found, all_inserted, all_removed, all_set, AllAt}
use Rattle.hub.proofs.Streaming.{left_within, told_all, told_of}

-- as many messages of the stream are answered as it says
abbrev pub IsTold : Stream → Type 0
IsTold stream = (told : List Message) × TellsMessages stream.came told (rest_of stream) × (length told ≡ stream.answered)

pub fresh_told : (held : Remainder) → IsTold (unanswered held)
fresh_told held = ([], refl, refl)

pub all_fresh : (sessions : BySession Remainder) → AllAt IsTold (each unanswered sessions)
all_fresh [] = tt
all_fresh (entry ∷ more) = (fresh_told entry.1, all_fresh more)

pub each_fresh : (sessions : BySession Remainder) → sessions ≡ each rest_of (each unanswered sessions)
each_fresh [] = refl
each_fresh (entry ∷ more) = ap (λ (t : BySession Remainder). entry ∷ t) (each_fresh more)

-- a piece whose messages are all told
piece_told : (stream : Stream) (piece : List ℕ) (now : List Message) (left : Remainder) → IsTold stream → TellsMessages (with_more (rest_of stream) piece) now left → IsSpent left
    → (completed stream piece ≡ now) × (rest_of (with_piece stream piece) ≡ left) × IsTold (with_piece stream piece)
piece_told stream piece now left (told, tells, count) more spent =
    let came : Remainder = with_more stream.came piece in
    let all : TellsMessages came (told ++ now) left = tells-append came told (with_more (rest_of stream) piece) now left (tells-more stream.came told (rest_of stream) piece tells) more in
    let is : messages came ≡ (told ++ now, left) = told_all came (told ++ now) left all spent in
    let whole : (messages came).0 ≡ told ++ now = ap (λ (t : List Message × Remainder). t.0) is in
    let rest : rest_of (with_piece stream piece) ≡ left = ap (λ (t : List Message). (messages_within (length t) came).1) whole ∙ left_within came (told ++ now) left all in (
      ap (λ (n : ℕ). drop n (messages came).0) (sym count) ∙ ap (drop (length told)) whole ∙ drop-append_seam told now,
      rest,
      (told ++ now, subst (λ (h : Remainder). TellsMessages came (told ++ now) h) (sym rest) all, ap (λ (t : List Message). length t) (sym whole)),
    )

-- a piece of whose messages the first are told
piece_begun : (stream : Stream) (piece : List ℕ) (now : List Message) (left : Remainder) → IsTold stream → TellsMessages (with_more (rest_of stream) piece) now left
    → (later : List Message) × (completed stream piece ≡ now ++ later)
piece_begun stream piece now left (told, tells, count) more =
    let came : Remainder = with_more stream.came piece in
    let all : TellsMessages came (told ++ now) left = tells-append came told (with_more (rest_of stream) piece) now left (tells-more stream.came told (rest_of stream) piece tells) more in
    let is = told_of came (told ++ now) left all in
    let later : List Message = (messages_within is.0 left).0 in
    let whole : (messages came).0 ≡ told ++ (now ++ later) = ap (λ (t : List Message × Remainder). t.0) is.1 ∙ append_assoc told now later in
    (later, ap (λ (n : ℕ). drop n (messages came).0) (sym count) ∙ ap (drop (length told)) whole ∙ drop-append_seam told (now ++ later))

-- ---- maps

-- the sessions hold what is left of the streams
abbrev pub Matches : BySession Remainder → Streams → Type 0
Matches sessions streams = (sessions ≡ each rest_of streams) × AllAt IsTold streams

some_of : {X Y : Type 0} (f : X → Y) (found : Option X) (y : Y) → option_map f found ≡ Some y → (x : X) × (found ≡ Some x) × (f x ≡ y)
some_of f None y e = absurd cc
some_of f (Some x) y e = (x, refl, let same : f x ≡ y = cc in same)

-- the stream of a session that holds something
pub stream_at : (sessions : BySession Remainder) (streams : Streams) (session : ℕ) (held : Remainder) → Matches sessions streams → at_session sessions session ≡ Some held
    → (stream : Stream) × (at_session streams session ≡ Some stream) × (rest_of stream ≡ held) × IsTold stream
stream_at sessions streams session held (same, all) here =
    let found : option_map rest_of (at_session streams session) ≡ Some held = sym (lookup_each rest_of (is_at (nat_cmp session)) streams) ∙ ap (λ (m : BySession Remainder). at_session m session) (sym same) ∙ here in
    let s = some_of rest_of (at_session streams session) held found in
    (s.0, s.1, s.2, all_found IsTold (is_at (nat_cmp session)) streams s.0 all s.1)

pub due_same : (sessions : BySession Remainder) (streams : Streams) (it : Happening) → Matches sessions streams → due sessions it ≡ due streams it
due_same sessions streams it (same, all) = ap (λ (m : BySession Remainder). due m it) same ∙ due_each rest_of streams it

pub bytes_changed : (streams : Streams) (session : ℕ) (piece : List ℕ) (stream : Stream) → at_session streams session ≡ Some stream
    → changed streams (Bytes session piece) ≡ set_value (is_at (nat_cmp session)) streams (with_piece stream piece)
bytes_changed streams session piece stream here = rw here refl

pub bytes_completed : (streams : Streams) (session : ℕ) (piece : List ℕ) (stream : Stream) → at_session streams session ≡ Some stream
    → completed_by streams (Bytes session piece) ≡ completed stream piece
bytes_completed streams session piece stream here = rw here refl

module _ {S : Type 0} (answers : S → Frame → List ℕ → S → Type 0) where
  pub exchanges_tell : (s : S) (h : Remainder) (xs : List Exchange) (t : S) (left : Remainder) → Exchanges answers s h xs t left → TellsMessages h (exchange_messages xs) left
  exchanges_tell s h [] t left (e, f) = f
  exchanges_tell s h (x ∷ xs) t left (middle, between, takes, replies, rest) = (between, takes, exchanges_tell middle between xs t left rest)

  pub exchanges_answer : (s : S) (h : Remainder) (xs : List Exchange) (t : S) (left : Remainder) (session : ℕ) → Exchanges answers s h xs t left → AllAnswered answers s (lines session xs) t
  exchanges_answer s h [] t left session (e, f) = e
  exchanges_answer s h (x ∷ xs) t left session (middle, between, takes, replies, rest) = (middle, replies, exchanges_answer middle between xs t left session rest)

  -- a piece that is heard in its session
  bytes_does : (before after : HubState S) (streams : Streams) (session : ℕ) (piece : List ℕ) (xs : List Exchange) → Matches before.sessions streams
      → Answered answers before session piece true xs after
      → (completed_by streams (Bytes session piece) ≡ exchange_messages xs) × Matches after.sessions (changed streams (Bytes session piece)) × AllAnswered answers before.service (lines session xs) after.service
  bytes_does before after streams session piece xs match (held, left, here, set, exchanges, spent) =
      let s = stream_at before.sessions streams session held match here in
      let tells = exchanges_tell before.service (with_more held piece) xs after.service left exchanges in
      let all = piece_told s.0 piece (exchange_messages xs) left s.3 (subst (λ (h : Remainder). TellsMessages (with_more h piece) (exchange_messages xs) left) (sym s.2) tells) spent in
      let is = bytes_changed streams session piece s.0 s.1 in
      let p : ℕ → Bool = is_at (nat_cmp session) in (
        bytes_completed streams session piece s.0 s.1 ∙ all.0,
        subst (λ (m : Streams). Matches after.sessions m) (sym is) (
          set ∙ ap (λ (m : BySession Remainder). set_value p m left) match.0 ∙ ap (set_value p (each rest_of streams)) (sym all.1) ∙ set_each rest_of p streams (with_piece s.0 piece),
          all_set IsTold p streams (with_piece s.0 piece) match.1 all.2,
        ),
        exchanges_answer before.service (with_more held piece) xs after.service left session exchanges,
      )

  -- what an event does that is not refused
  pub does_changes : (before after : HubState S) (streams : Streams) (it : Happening) (xs : List Exchange) → Matches before.sessions streams → Does answers before it xs after
      → (completed_by streams it ≡ exchange_messages xs) × Matches after.sessions (changed streams it) × AllAnswered answers before.service (lines (number it) xs) after.service
  does_changes before after streams (Open session) xs match (none, same) = (
    ap exchange_messages (sym none),
    (
      ap (λ (h : HubState S). h.sessions) same ∙ ap (λ (m : BySession Remainder). insert_entry nat_cmp m session (Rest [])) match.0 ∙ insert_each rest_of streams session (unanswered (Rest [])),
      all_inserted IsTold streams session (unanswered (Rest [])) match.1 (fresh_told (Rest [])),
    ),
    subst (λ (xs : List Exchange). AllAnswered answers before.service (lines session xs) after.service) (sym none) (ap (λ (h : HubState S). h.service) same),
  )
  does_changes before after streams (Bytes session piece) xs match does = bytes_does before after streams session piece xs match does
  does_changes before after streams (End session) xs match (none, same) = (
    ap exchange_messages (sym none),
    (
      ap (λ (h : HubState S). h.sessions) same ∙ ap (λ (m : BySession Remainder). remove_entry (is_at (nat_cmp session)) m) match.0 ∙ remove_each rest_of (is_at (nat_cmp session)) streams,
      all_removed IsTold (is_at (nat_cmp session)) streams match.1,
    ),
    subst (λ (xs : List Exchange). AllAnswered answers before.service (lines session xs) after.service) (sym none) (ap (λ (h : HubState S). h.service) same),
  )

  -- a piece of whose messages the first are answered
  pub bytes_begins : (before after : HubState S) (streams : Streams) (session : ℕ) (piece : List ℕ) (all : Bool) (xs : List Exchange) → Matches before.sessions streams
      → Answered answers before session piece all xs after
      → (later : List Message) × (completed_by streams (Bytes session piece) ≡ exchange_messages xs ++ later) × AllAnswered answers before.service (lines session xs) after.service × (due streams (Bytes session piece) ≡ None)
  bytes_begins before after streams session piece all xs match (held, left, here, set, exchanges, spent) =
      let s = stream_at before.sessions streams session held match here in
      let tells = exchanges_tell before.service (with_more held piece) xs after.service left exchanges in
      let t = piece_begun s.0 piece (exchange_messages xs) left s.3 (subst (λ (h : Remainder). TellsMessages (with_more h piece) (exchange_messages xs) left) (sym s.2) tells) in
      (t.0, bytes_completed streams session piece s.0 s.1 ∙ t.1, exchanges_answer before.service (with_more held piece) xs after.service left session exchanges, rw s.1 refl)
