-- Events of sessions, and when one is refused.
use Rattle.std.specs.Prelude.{ℕ, List, Option, Some, None, nat_le, is_some, length, if◌then◌else◌}
use Rattle.std.specs.Ordering.{nat_cmp}
use Rattle.std.specs.BTreeMap.{is_at}
use Rattle.std.specs.Map.{lookup}
use Rattle.wire.specs.Streams.{Remainder, part_of}
use Rattle.hub.specs.declared.event.Event.{Event}
use Rattle.hub.specs.declared.event.Event.TheVariants as event
use Rattle.hub.specs.declared.hub_refusal.HubRefusal.{HubRefusal}
use Rattle.hub.specs.declared.hub_refusal.HubRefusal.TheVariants.{TooManySessions, SessionOpen, NoSession}
use Rattle.hub.specs.declared.sessions.TheConstants.{MAX_SESSIONS}

-- an event, regardless of where its bytes lie
pub data Happening : Type 0 where
  Open : ℕ → Happening
  Bytes : ℕ → List ℕ → Happening
  End : ℕ → Happening

abbrev pub event_seen : Event → Happening
event_seen (event.Open session) = Open session
event_seen (event.Bytes session piece) = Bytes session piece.now
event_seen (event.End session) = End session

-- the number of its session
abbrev pub number : Happening → ℕ
number (Open session) = session
number (Bytes session piece) = session
number (End session) = session

-- what is kept of each open session, in order of their numbers
abbrev pub BySession : Type 0 → Type 0
BySession X = List (ℕ × X)

abbrev pub at_session : {X : Type 0} → BySession X → ℕ → Option X
at_session sessions session = lookup (is_at (nat_cmp session)) sessions

-- how many of so many bytes are the next part of a session's stream: all, where it is not open
abbrev pub next_part : Option Remainder → ℕ → ℕ
next_part None count = count
next_part (Some held) count = part_of held count

-- the refusal that applies, memory aside: at most 1,024 sessions are open
abbrev pub due : {X : Type 0} → BySession X → Happening → Option HubRefusal
due sessions (Open session) = if nat_le MAX_SESSIONS (length sessions) then Some TooManySessions else (if is_some (at_session sessions session) then Some SessionOpen else None)
due sessions (Bytes session piece) = if is_some (at_session sessions session) then None else Some NoSession
due sessions (End session) = if is_some (at_session sessions session) then None else Some NoSession

-- what contracts see of a hub: the service, and what the stream of each open session holds
pub record HubState (S : Type 0) : Type 0 where
  pub service : S
  pub sessions : BySession Remainder
