-- A session is told of its own streams alone, whatever the others send and wherever the streams are cut.
use Rattle.std.specs.Prelude.{◌≡◌, ◌==◌, ◌&&◌, ℕ, List, [], ◌∷◌, ◌++◌, map, filter, flat_map, if◌then◌else◌, not, Bool, false, is_some, Option, Some, None}
use Rattle.std.specs.List.Sorted.{IsStrictlySortedBy}
use Rattle.std.specs.Map.{keys_of}
use Rattle.std.specs.Ordering.{nat_cmp}
use Rattle.encoding.specs.Bytes.{joined}
use Rattle.wire.specs.Frames.{Frame}
use Rattle.wire.specs.Streams.{Remainder, Message, Rest, messages, with_more}
use Rattle.hub.specs.Events.{BySession, Happening, Open, Bytes, End, HubState, at_session, due, number}
use Rattle.hub.specs.Runs.{Line, Streams, after_event, commands, each, told_to, unanswered, BringTheSame, Runs}

-- ---- the streams of a session

-- an opening that is refused
abbrev pub is_refused_opening : Streams → Happening → Bool
is_refused_opening streams (Open session) = is_some (due streams (Open session))
is_refused_opening streams (Bytes session piece) = false
is_refused_opening streams (End session) = false

-- the events of a session, without the openings that are refused
abbrev pub own_events : ℕ → Streams → List Happening → List Happening
own_events session streams [] = []
own_events session streams (it ∷ more) =
    (if (number it == session) && not (is_refused_opening streams it) then it ∷ [] else []) ++ own_events session (after_event streams it) more

-- a stream of a session: what was held of it before the events, and the pieces that came
abbrev pub OwnStream : Type 0
OwnStream = Remainder × List (List ℕ)

-- the pieces that come before the session is ended
abbrev pub pieces : List Happening → List (List ℕ)
pieces [] = []
pieces (Open session ∷ more) = []
pieces (Bytes session piece ∷ more) = piece ∷ pieces more
pieces (End session ∷ more) = []

-- the streams that are opened, one after another; a piece or an ending outside of a stream does nothing
abbrev pub opened_streams : List Happening → List OwnStream
opened_streams [] = []
opened_streams (Open session ∷ more) = (Rest [], pieces more) ∷ opened_streams more
opened_streams (Bytes session piece ∷ more) = opened_streams more
opened_streams (End session ∷ more) = opened_streams more

-- the streams of a session by its events: first the one that is open before them, if one is
abbrev pub own_streams : Option Remainder → List Happening → List OwnStream
own_streams None events = opened_streams events
own_streams (Some held) events = (held, pieces events) ∷ opened_streams events

-- ---- their messages

-- the messages of a stream: those of what was held with the pieces behind it, joined; without a piece it waits
abbrev pub stream_messages : OwnStream → List Message
stream_messages (held, []) = []
stream_messages (held, piece ∷ more) = (messages (with_more held (joined (piece ∷ more)))).0

-- the messages of a session's own streams, one stream after another
abbrev pub own_messages : ℕ → BySession Remainder → List Happening → List Message
own_messages session sessions events = flat_map stream_messages (own_streams (at_session sessions session) (own_events session (each unanswered sessions) events))

-- ---- the law

-- the messages of one session, among those of all
abbrev pub messages_of : ℕ → List (ℕ × Message) → List Message
messages_of session all = map (λ one. one.1) (filter (λ one. one.0 == session) all)

-- the lines of one session
abbrev pub lines_for : ℕ → List Line → List Line
lines_for session = filter (λ line. line.session == session)

-- what is sent on a stream: what was held of it, and the pieces that came as one, if any came
abbrev pub sent : OwnStream → Remainder × Option (List ℕ)
sent (held, []) = (held, None)
sent (held, piece ∷ more) = (held, Some (joined (piece ∷ more)))

-- each session sends the same on its streams, wherever these are cut, and the messages are of the same
-- sessions in turn
pub record SendTheSame (sessions : BySession Remainder) (events others : List Happening) : Type 0 where
  pub streams : (session : ℕ) → map sent (own_streams (at_session sessions session) (own_events session (each unanswered sessions) events))
      ≡ map sent (own_streams (at_session sessions session) (own_events session (each unanswered sessions) others))
  pub turns : map (λ one. one.0) (commands (each unanswered sessions) events) ≡ map (λ one. one.0) (commands (each unanswered sessions) others)

-- Where the streams are cut, these are the same messages in the same order.
abbrev pub CutsBringTheSame : Type 0
CutsBringTheSame = (sessions : BySession Remainder) (events others : List Happening) → IsStrictlySortedBy nat_cmp (keys_of sessions)
    → SendTheSame sessions events others → BringTheSame (each unanswered sessions) events others

-- The messages of a session are those of its own streams, also where it is ended and opened again.
abbrev pub SessionsHearTheirOwn : Type 0
SessionsHearTheirOwn = (session : ℕ) (sessions : BySession Remainder) (events : List Happening) → IsStrictlySortedBy nat_cmp (keys_of sessions)
    → messages_of session (commands (each unanswered sessions) events) ≡ own_messages session sessions events

-- In a run the lines of a session are those of these messages, and it is told their replies.
abbrev pub RunsTellTheirOwn : {S : Type 0} → (S → Frame → List ℕ → S → Type 0) → Type 0
RunsTellTheirOwn {S} answers = (session : ℕ) (before after : HubState S) (events : List Happening) (lines : List Line) → IsStrictlySortedBy nat_cmp (keys_of before.sessions)
    → Runs answers before events lines after
    → (map (λ line. line.message) (lines_for session lines) ≡ own_messages session before.sessions events)
    × (told_to session lines ≡ flat_map (λ line. line.reply) (lines_for session lines))
