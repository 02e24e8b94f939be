-- The sessions of a hub, as the loop over connections uses them.
use Rattle.std.specs.Prelude.{◌≡◌, ◌≢◌, ◌⊎◌, ◌^◌, ◌≤◌, ◌++◌, ℕ, Bool, List, [], ◌∷◌, false, Option, Some, None, ⊤}
use Rattle.std.specs.Str.{bytes_eq}
use Rattle.book.specs.declared.directory_refusal.Refusal.TheVariants.{KeepFailed}
use Rattle.book.specs.Refusals.{book_refusal_number}
use Rattle.wire.specs.Frames.{Frame}
use Rattle.wire.specs.Streams.{EndsOne, Remainder}
use Rattle.connections.specs.declared.ending.SessionFault.{SessionFault}
use Rattle.connections.specs.declared.ending.SessionFault.TheVariants as fault
use Rattle.hub.specs.declared.hub_refusal.HubRefusal.{HubRefusal}
use Rattle.hub.specs.declared.hub_refusal.HubRefusal.TheVariants.{TooManySessions, SessionOpen, NoSession, Memory}
use Rattle.hub.specs.Events.{Happening, Open, Bytes, End, HubState, at_session, due}
use Rattle.hub.specs.Exchanges.{Exchange, exchange_messages, refused_frame, replies}
use Rattle.hub.specs.Happenings.{Answered, Does, DoesUnlessRefused, TakesMemory}
use Rattle.hub.specs.Laws.{lines_for}
use Rattle.hub.specs.Runs.{lines, told_to, Line}
use Rattle.connections.specs.Histories.{At, Ordered, GoesOn, Syncs, NoneWaits, On, Comes, Opens, Refuses, Reads, IsOver, IsSilent, Hears, Misses, Lacks, Takes, TakesNone, Fails, Ends, Closes, History, Course, Leads, course}
use Rattle.connections.specs.Laws.{AreInOrder}
use Rattle.server.specs.Serving.{spelled}

-- an answer refuses an edit because its record could not be kept
abbrev pub is_unkept : List ℕ → Bool
is_unkept answer = bytes_eq answer (refused_frame (book_refusal_number KeepFailed))

-- only want of memory is told as such
abbrev pub session_fault : HubRefusal → SessionFault
session_fault TooManySessions = fault.Refused
session_fault SessionOpen = fault.Refused
session_fault NoSession = fault.Refused
session_fault (Memory taken) = fault.Memory

-- why an event of a session is refused: the session's number has more than 32 bits, or the hub refuses the event
abbrev pub IsEventRefused : {S : Type 0} → HubState S → ℕ → Happening → Type 0
IsEventRefused before session it = (2 ^ 32 ≤ session) ⊎ (due before.sessions it ≢ None)

-- why a session is not opened: that is refused; or it is not, and memory is wanting
abbrev pub Unopened : {S : Type 0} → HubState S → ℕ → SessionFault → Type 0
Unopened before session fault.Memory = due before.sessions (Open session) ≡ None
Unopened before session fault.Refused = IsEventRefused before session (Open session)

-- a part ends at most one message of its stream
abbrev pub EndsOneAt : {S : Type 0} → HubState S → ℕ → List ℕ → Type 0
EndsOneAt before session part = (held : Remainder) → at_session before.sessions session ≡ Some held → EndsOne held part

-- At each time of a history, each connection took a beginning of what its session was answered, and the
-- session heard a beginning of what was read.
abbrev pub AlwaysInOrder : History → Type 0
AlwaysInOrder acts = (later earlier : History) (place : ℕ) → acts ≡ later ++ earlier → AreInOrder (course earlier place)

-- What the session of a connection was answered is what these lines tell it since it was opened: the replies to the
-- messages in the bytes that it heard. Where memory was wanting, lines whose replies were lost stand behind those.
abbrev pub IsAnsweredBy : List Line → ℕ → Option Course → Type 0
IsAnsweredBy all place None = ⊤
IsAnsweredBy all place (Some of) = (past own : List Line) × (exchanges lost : List Exchange) × (all ≡ past ++ own)
    × (lines_for place own ≡ lines place (exchanges ++ lost)) × (spelled of.heard ≡ exchange_messages exchanges)
    × (told_to place own ≡ of.answered ++ replies lost) × (of.is_wanting ≡ false → lost ≡ [])

module _ {S : Type 0} (answers : S → Frame → List ℕ → S → Type 0) where
  -- an event is not refused, and does what it does
  abbrev pub Proceeds : HubState S → Happening → List Exchange → HubState S → Type 0
  Proceeds before it exchanges after = (due before.sessions it ≡ None) × Does answers before it exchanges after

  -- that of an opening
  abbrev pub Opened : HubState S → ℕ → HubState S → Type 0
  Opened before session after = Proceeds before (Open session) [] after

  -- that of a part, and this is the reply to the messages that it completes
  abbrev pub Heard : HubState S → ℕ → List ℕ → List ℕ → HubState S → Type 0
  Heard before session part reply after = (exchanges : List Exchange) × Proceeds before (Bytes session part) exchanges after × (reply ≡ replies exchanges) × EndsOneAt before session part

  -- memory was wanting for a part that is not refused: nothing was done of it, and it takes memory; or it was taken,
  -- these messages were answered, and memory was wanting for a reply
  abbrev pub Loses : HubState S → ℕ → List ℕ → List Exchange → HubState S → Type 0
  Loses before session part exchanges after = ((due before.sessions (Bytes session part) ≡ None) × TakesMemory before.sessions (Bytes session part) × (exchanges ≡ []) × (after ≡ before))
      ⊎ Answered answers before session part false exchanges after

  -- why a part is not heard
  abbrev pub Missed : HubState S → ℕ → List ℕ → SessionFault → HubState S → Type 0
  Missed before session part fault.Memory after = (exchanges : List Exchange) × Loses before session part exchanges after
  Missed before session part fault.Refused after = IsEventRefused before session (Bytes session part) × (after ≡ before)

  -- that of an end passes; a session's number has 32 bits
  abbrev pub Ended : HubState S → ℕ → HubState S → Type 0
  Ended before session after = DoesUnlessRefused answers before (End session) [] after ⊎ ((2 ^ 32 ≤ session) × (after ≡ before))

  -- what happens to sessions leads from this hub to that one
  abbrev pub HubLeads : {X : Type 0} → (X → HubState S) → X → History → X → Type 0
  HubLeads hub_of = Leads (λ before session after. Opened (hub_of before) session (hub_of after)) (λ before session why. Unopened (hub_of before) session why)
      (λ before session part reply after. Heard (hub_of before) session part reply (hub_of after))
      (λ before session part why after. Missed (hub_of before) session part why (hub_of after))
      (λ before session after. Ended (hub_of before) session (hub_of after))

  -- The messages of what happened from this hub to that one, each with its reply, as lines of the hub: what a
  -- session is answered to a part is the replies to the messages that its stream completes with these bytes.
  -- Where memory is wanting for a part, its replies reach nobody.
  abbrev pub AreLines : HubState S → History → HubState S → List Line → Type 0
  AreLines start [] after all = (after ≡ start) × (all ≡ [])
  AreLines start (At pause now ∷ before) after all = AreLines start before after all
  AreLines start (Ordered ∷ before) after all = AreLines start before after all
  AreLines start (GoesOn ∷ before) after all = AreLines start before after all
  AreLines start (Syncs kept ∷ before) after all = AreLines start before after all
  AreLines start (NoneWaits ∷ before) after all = AreLines start before after all
  AreLines start (On place Comes ∷ before) after all = AreLines start before after all
  AreLines start (On place Opens ∷ before) after all = (middle : HubState S) × AreLines start before middle all × Opened middle place after
  AreLines start (On place (Refuses why) ∷ before) after all = AreLines start before after all × Unopened after place why
  AreLines start (On place (Reads bytes) ∷ before) after all = AreLines start before after all
  AreLines start (On place IsOver ∷ before) after all = AreLines start before after all
  AreLines start (On place IsSilent ∷ before) after all = AreLines start before after all
  AreLines start (On place (Hears part reply) ∷ before) after all = (middle : HubState S) × (earlier : List Line) × (exchanges : List Exchange) × AreLines start before middle earlier
      × Proceeds middle (Bytes place part) exchanges after × (reply ≡ replies exchanges) × EndsOneAt middle place part × (all ≡ earlier ++ lines place exchanges)
  AreLines start (On place (Misses part fault.Memory) ∷ before) after all = (middle : HubState S) × (earlier : List Line) × (lost : List Exchange) × AreLines start before middle earlier
      × Loses middle place part lost after × (all ≡ earlier ++ lines place lost)
  AreLines start (On place (Misses part fault.Refused) ∷ before) after all = AreLines start before after all × IsEventRefused after place (Bytes place part)
  AreLines start (On place Lacks ∷ before) after all = AreLines start before after all
  AreLines start (On place (Takes bytes) ∷ before) after all = AreLines start before after all
  AreLines start (On place TakesNone ∷ before) after all = AreLines start before after all
  AreLines start (On place Fails ∷ before) after all = AreLines start before after all
  AreLines start (On place Ends ∷ before) after all = (middle : HubState S) × AreLines start before middle all × Ended middle place after
  AreLines start (On place (Closes why) ∷ before) after all = AreLines start before after all

  -- At each time of what happened, the lines so far are the first of these, and each session is answered by them.
  abbrev pub AlwaysAnswered : HubState S → History → List Line → Type 0
  AlwaysAnswered start acts all = (later earlier : History) → acts ≡ later ++ earlier
      → (now : HubState S) × (first rest : List Line) × (all ≡ first ++ rest) × AreLines start earlier now first
      × ((place : ℕ) → IsAnsweredBy first place (course earlier place))
