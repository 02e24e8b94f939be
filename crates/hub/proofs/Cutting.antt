-- Where streams are cut, the messages are the same, and so are the bytes that each session gets.
use Rattle.std.proofs.Common.{◌≡◌, ℕ, List, [], ◌∷◌, ◌++◌, Bool, true, false, cond, filter, flat_map, map, Option, Some, None, refl, sym, ap, ap₂, ◌∙◌}
use Rattle.std.proofs.lemmas.Bool.{eqb-true, or_parts}
use Rattle.std.specs.Prelude.{◌==◌, is_some}
use Rattle.wire.specs.Streams.{Remainder, Message, messages, with_more}
use Rattle.hub.specs.declared.hub_refusal.HubRefusal.{HubRefusal}
use Rattle.hub.specs.declared.hub_refusal.HubRefusal.TheVariants.{NoSession}
use Rattle.hub.specs.Events.{BySession, Happening, Open, Bytes, End, at_session, due, number}
use Rattle.hub.specs.Laws.{lines_for, messages_of, own_events, own_streams, sent, stream_messages, CutsBringTheSame, OwnStream}
use Rattle.hub.specs.Runs.{Line, Streams, after_event, asked_by, brought, bytes_of, commands, completed_by, each, or_nothing, told_to, unanswered, unless_due, was_open, AreOutputs}
use Rattle.hub.proofs.Owning.{of_other, own_asked, own_told, same_is, sessions_hear}

-- ---- messages of sessions in turn

abbrev Sent : Type 0
Sent = ℕ × Message

pub same_cons : {X : Type 0} (x y : X) (xs ys : List X) → x ∷ xs ≡ y ∷ ys → (x ≡ y) × (xs ≡ ys)
same_cons x y xs ys same = (cc, cc)

own_more : (session : ℕ) (one : Sent) (more : List Sent) → (one.0 == session) ≡ true → messages_of session (one ∷ more) ≡ one.1 ∷ messages_of session more
own_more session one more own = ap (λ (t : Bool). map (λ (each : Sent). each.1) (cond t (one ∷ filter (λ (each : Sent). each.0 == session) more) (filter (λ (each : Sent). each.0 == session) more))) own

not_own : (session : ℕ) (one : Sent) (more : List Sent) → (one.0 == session) ≡ false → messages_of session (one ∷ more) ≡ messages_of session more
not_own session one more other = ap (λ (t : Bool). map (λ (each : Sent). each.1) (cond t (one ∷ filter (λ (each : Sent). each.0 == session) more) (filter (λ (each : Sent). each.0 == session) more))) other

-- what each session sends, and the turns of the sessions, are all that is sent
by_sessions : (all others : List Sent) → map (λ (one : Sent). one.0) all ≡ map (λ (one : Sent). one.0) others → ((session : ℕ) → messages_of session all ≡ messages_of session others) → all ≡ others
by_sessions [] [] turns same = refl
by_sessions [] (other ∷ rest) turns same = absurd cc
by_sessions (one ∷ more) [] turns same = absurd cc
by_sessions (one ∷ more) (other ∷ rest) turns same = ap₂ (λ (x : Sent) (xs : List Sent). x ∷ xs) (λ i. (t.0 i, message i)) (by_sessions more rest t.1 later)
  where
    t : (one.0 ≡ other.0) × (map (λ (each : Sent). each.0) more ≡ map (λ (each : Sent). each.0) rest)
    t = same_cons one.0 other.0 _ _ turns

    both : (session : ℕ) → (one.0 == session) ≡ true → one.1 ∷ messages_of session more ≡ other.1 ∷ messages_of session rest
    both session own = sym (own_more session one more own) ∙ same session ∙ own_more session other rest (ap (λ (n : ℕ). n == session) (sym t.0) ∙ own)

    message : one.1 ≡ other.1
    message = (same_cons one.1 other.1 _ _ (both one.0 (same_is one.0))).0

    later : (session : ℕ) → messages_of session more ≡ messages_of session rest
    later session = by (one.0 == session) refl
      where
        by : (t : Bool) → (one.0 == session) ≡ t → messages_of session more ≡ messages_of session rest
        by true own = (same_cons one.1 other.1 _ _ (both session own)).1
        by false not = sym (not_own session one more not) ∙ same session ∙ not_own session other rest (ap (λ (n : ℕ). n == session) (sym t.0) ∙ not)

-- ---- streams, wherever they are cut

abbrev of_sent : Remainder × Option (List ℕ) → List Message
of_sent (held, None) = []
of_sent (held, Some bytes) = (messages (with_more held bytes)).0

sent_messages : (stream : OwnStream) → stream_messages stream ≡ of_sent (sent stream)
sent_messages (held, []) = refl
sent_messages (held, piece ∷ more) = refl

all_sent : (streams : List OwnStream) → flat_map stream_messages streams ≡ flat_map of_sent (map sent streams)
all_sent [] = refl
all_sent (stream ∷ more) = ap₂ (λ (ms : List Message) (rest : List Message). ms ++ rest) (sent_messages stream) (all_sent more)

pub cuts_bring : CutsBringTheSame
cuts_bring sessions events others up same =
    by_sessions (commands (each unanswered sessions) events) (commands (each unanswered sessions) others) same.turns (λ session.
    sessions_hear session sessions events up
    ∙ all_sent (own_streams (at_session sessions session) (own_events session (each unanswered sessions) events))
    ∙ ap (flat_map of_sent) (same.streams session)
    ∙ sym (all_sent (own_streams (at_session sessions session) (own_events session (each unanswered sessions) others)))
    ∙ sym (sessions_hear session sessions others up))

-- ---- a session that is not open

either_way : (refusal : Option HubRefusal) (messages : List Message) → unless_due refusal messages messages ≡ messages
either_way None messages = refl
either_way (Some refusal) messages = refl

none_brought : (streams : Streams) (it : Happening) → is_some (at_session streams (number it)) ≡ false → brought streams it ≡ []
none_brought streams (Open session) none = either_way (due streams (Open session)) []
none_brought streams (Bytes session piece) none =
    ap (λ (refusal : Option HubRefusal). unless_due refusal (completed_by streams (Bytes session piece)) []) (ap (λ (t : Bool). cond t None (Some NoSession)) none)
none_brought streams (End session) none = either_way (due streams (End session)) []

none_sent : (streams : Streams) (events : List Happening) (session : ℕ) → was_open streams events session ≡ false → messages_of session (commands streams events) ≡ []
none_sent streams [] session closed = refl
none_sent streams (it ∷ more) session closed = by (number it == session) refl (none_sent (after_event streams it) more session c.1)
  where
    c : (is_some (at_session streams session) ≡ false) × (was_open (after_event streams it) more session ≡ false)
    c = or_parts (is_some (at_session streams session)) (was_open (after_event streams it) more session) closed

    by : (t : Bool) → (number it == session) ≡ t → messages_of session (commands (after_event streams it) more) ≡ []
        → messages_of session (map (λ message. (number it, message)) (brought streams it) ++ commands (after_event streams it) more) ≡ []
    by true own later =
        ap (λ (ms : List Message). messages_of session (map (λ message. (number it, message)) ms ++ commands (after_event streams it) more))
        (none_brought streams it (ap (λ (n : ℕ). is_some (at_session streams n)) (eqb-true (number it) session own) ∙ c.0))
        ∙ later
    by false other later = of_other session (number it) (brought streams it) (commands (after_event streams it) more) other ∙ later

none_mapped : {X Y : Type 0} (f : X → Y) (xs : List X) → map f xs ≡ [] → xs ≡ []
none_mapped f [] none = refl
none_mapped f (x ∷ xs) none = absurd cc

none_told : (session : ℕ) (lines : List Line) → messages_of session (map asked_by lines) ≡ [] → told_to session lines ≡ []
none_told session lines none = own_told session lines ∙ ap (flat_map (λ (line : Line). line.reply)) (none_mapped (λ (line : Line). line.message) (lines_for session lines) (own_asked session lines ∙ none))

-- the bytes that a session gets are the replies to its messages
pub bytes_told : (streams : Streams) (events : List Happening) (lines : List Line) (outputs : BySession (List ℕ)) → map asked_by lines ≡ commands streams events → AreOutputs streams events lines outputs
    → (session : ℕ) → bytes_of outputs session ≡ told_to session lines
bytes_told streams events lines outputs messages are session = by (was_open streams events session) refl (are.of_each session)
  where
    by : (t : Bool) → was_open streams events session ≡ t → at_session outputs session ≡ cond t (Some (told_to session lines)) None → bytes_of outputs session ≡ told_to session lines
    by true opens is = ap or_nothing is
    by false closed is = ap or_nothing is ∙ sym (none_told session lines (ap (messages_of session) messages ∙ none_sent streams events session closed))
