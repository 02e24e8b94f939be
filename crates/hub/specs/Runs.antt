-- What a run of events is, told by whole streams: which messages come, in which order, what each is
-- answered, and what each session is told. A session's stream is what came of it since it was opened;
-- what a session holds before the run begins its stream.
use Rattle.std.specs.Prelude.{◌≡◌, ℕ, List, [], ◌∷◌, ◌++◌, ◌||◌, ◌==◌, length, drop, map, Bool, Option, Some, None, is_some, if◌then◌else◌}
use Rattle.std.specs.List.Sorted.{IsStrictlySortedBy}
use Rattle.std.specs.Ordering.{nat_cmp}
use Rattle.std.specs.BTreeMap.{is_at, insert_entry}
use Rattle.std.specs.Map.{keys_of, remove_entry, set_value}
use Rattle.wire.specs.Frames.{Frame}
use Rattle.wire.specs.Streams.{Remainder, Message, Rest, messages, messages_within, with_more}
use Rattle.hub.specs.declared.hub_refusal.HubRefusal.{HubRefusal}
use Rattle.hub.specs.Events.{BySession, Happening, Open, Bytes, End, HubState, at_session, due, number}
use Rattle.hub.specs.Exchanges.{Exchange, Replies}
use Rattle.hub.specs.Happenings.{IsPart}

-- ---- streams

-- what came of a stream, and how many of its messages are answered
pub record Stream : Type 0 where
  pub came : Remainder
  pub answered : ℕ

-- a stream of which this came, and no message is answered
abbrev pub unanswered : Remainder → Stream
unanswered came = record { came = came; answered = 0 }

-- with one piece more, and all its messages answered
abbrev pub with_piece : Stream → List ℕ → Stream
with_piece stream piece = record { came = with_more stream.came piece; answered = length (messages (with_more stream.came piece)).0 }

-- the messages of a stream that are whole with this piece, and were not answered before it
abbrev pub completed : Stream → List ℕ → List Message
completed stream piece = drop stream.answered (messages (with_more stream.came piece)).0

-- what is held of a stream after its answered messages
abbrev pub rest_of : Stream → Remainder
rest_of stream = (messages_within stream.answered stream.came).1

abbrev pub Streams : Type 0
Streams = BySession Stream

-- the same of each session
abbrev pub each : {X Y : Type 0} → (X → Y) → BySession X → BySession Y
each f [] = []
each f (entry ∷ more) = (entry.0, f entry.1) ∷ each f more

-- ---- events

-- what an event does that is not refused
abbrev pub changed : Streams → Happening → Streams
changed streams (Open session) = insert_entry nat_cmp streams session (unanswered (Rest []))
changed streams (Bytes session piece) = grown (at_session streams session)
  where
    grown : Option Stream → Streams
    grown None = streams
    grown (Some stream) = set_value (is_at (nat_cmp session)) streams (with_piece stream piece)
changed streams (End session) = remove_entry (is_at (nat_cmp session)) streams

-- the messages that it brings
abbrev pub completed_by : Streams → Happening → List Message
completed_by streams (Open session) = []
completed_by streams (Bytes session piece) = of (at_session streams session)
  where
    of : Option Stream → List Message
    of None = []
    of (Some stream) = completed stream piece
completed_by streams (End session) = []

-- a refused event does nothing
abbrev pub unless_due : {X : Type 0} → Option HubRefusal → X → X → X
unless_due None this other = this
unless_due (Some refusal) this other = other

-- the streams after an event
abbrev pub after_event : Streams → Happening → Streams
after_event streams it = unless_due (due streams it) (changed streams it) streams

-- the messages that an event brings
abbrev pub brought : Streams → Happening → List Message
brought streams it = unless_due (due streams it) (completed_by streams it) []

-- the streams after events
abbrev pub after_events : Streams → List Happening → Streams
after_events streams [] = streams
after_events streams (it ∷ more) = after_events (after_event streams it) more

-- the messages of all sessions, each with its session, in the order of the events that bring them
abbrev pub commands : Streams → List Happening → List (ℕ × Message)
commands streams [] = []
commands streams (it ∷ more) = map (λ message. (number it, message)) (brought streams it) ++ commands (after_event streams it) more

-- the events bring the same messages in the same order, wherever the pieces are cut
abbrev pub BringTheSame : Streams → List Happening → List Happening → Type 0
BringTheSame streams events others = commands streams events ≡ commands streams others

-- at some time the session was open: before one of the events, or after the last
abbrev pub was_open : Streams → List Happening → ℕ → Bool
was_open streams [] session = is_some (at_session streams session)
was_open streams (it ∷ more) session = is_some (at_session streams session) || was_open (after_event streams it) more session

-- ---- answers

-- a message of a session, and the bytes of its reply
pub record Line : Type 0 where
  pub session : ℕ
  pub message : Message
  pub reply : List ℕ

-- the messages of a session with their replies, as lines of it
abbrev pub lines : ℕ → List Exchange → List Line
lines session [] = []
lines session (exchange ∷ more) = record { session = session; message = exchange.message; reply = exchange.reply } ∷ lines session more

abbrev pub asked_by : Line → ℕ × Message
asked_by line = (line.session, line.message)

-- what a session is told: the replies to its messages, joined
abbrev pub told_to : ℕ → List Line → List ℕ
told_to session [] = []
told_to session (line ∷ more) = (if line.session == session then line.reply else []) ++ told_to session more

-- an output for each session that is open once, of what it is told, ascending by their numbers
pub record AreOutputs (streams : Streams) (events : List Happening) (lines : List Line) (outputs : BySession (List ℕ)) : Type 0 where
  pub ascend : IsStrictlySortedBy nat_cmp (keys_of outputs)
  pub of_each : (session : ℕ) → at_session outputs session ≡ (if was_open streams events session then Some (told_to session lines) else None)

-- the bytes that a session gets: none, if it has no output
abbrev pub or_nothing : Option (List ℕ) → List ℕ
or_nothing None = []
or_nothing (Some output) = output

abbrev pub bytes_of : BySession (List ℕ) → ℕ → List ℕ
bytes_of outputs session = or_nothing (at_session outputs session)

module _ {S : Type 0} (answers : S → Frame → List ℕ → S → Type 0) where
  -- each message is answered as the service stands after those before it
  abbrev pub AllAnswered : S → List Line → S → Type 0
  AllAnswered service [] after = after ≡ service
  AllAnswered service (line ∷ more) after = (middle : S) × Replies answers service line.message line.reply middle × AllAnswered middle more after

  -- these are the messages of a run with their replies, and all are answered
  pub record Runs (before : HubState S) (events : List Happening) (lines : List Line) (after : HubState S) : Type 0 where
    pub messages : map asked_by lines ≡ commands (each unanswered before.sessions) events
    pub answered : AllAnswered before.service lines after.service
    pub left : after.sessions ≡ each rest_of (after_events (each unanswered before.sessions) events)

  -- these are the first messages of a run with their replies, and they are answered
  abbrev pub AreFirst : HubState S → List Happening → List Line → S → Type 0
  AreFirst before events lines after = (later : List (ℕ × Message))
      × (commands (each unanswered before.sessions) events ≡ map asked_by lines ++ later) × AllAnswered before.service lines after

  -- the first messages of a run are answered
  abbrev pub BeginsRun : HubState S → List Happening → S → Type 0
  BeginsRun before events after = (lines : List Line) × AreFirst before events lines after

  -- a run that stopped where memory ran out: after some of its events, and perhaps in one
  abbrev pub Stops : HubState S → List Happening → HubState S → Type 0
  Stops before events after = (done : List Happening) × (later : List Happening) × (lines : List Line) × (between : HubState S)
      × (events ≡ done ++ later) × Runs before done lines between × IsPart answers between later after
