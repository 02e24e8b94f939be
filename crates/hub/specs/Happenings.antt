-- What an event does, and the messages that it brings.
use Rattle.std.specs.Prelude.{◌≡◌, ◌≢◌, ◌⊎◌, ℕ, List, [], ◌∷◌, ◌++◌, Bool, true, false, Some, None, Result, Ok, Err, ⊤}
use Rattle.std.specs.Ordering.{nat_cmp}
use Rattle.std.specs.BTreeMap.{is_at, insert_entry}
use Rattle.std.specs.Map.{remove_entry, set_value}
use Rattle.wire.specs.Frames.{Frame}
use Rattle.wire.specs.Streams.{Remainder, Rest, Failed, with_more, IsSpent}
use Rattle.hub.specs.declared.hub_refusal.HubRefusal.{HubRefusal}
use Rattle.hub.specs.declared.hub_refusal.HubRefusal.TheVariants.{TooManySessions, SessionOpen, NoSession, Memory}
use Rattle.hub.specs.Events.{BySession, Happening, Open, Bytes, End, HubState, at_session, due}
use Rattle.hub.specs.Exchanges.{Exchange, Exchanges, HearsPiece, replies}

-- the event takes memory: the end of a session takes none, nor a piece that is empty or of a stream that
-- failed
abbrev pub TakesMemory : BySession Remainder → Happening → Type 0
TakesMemory sessions (Open session) = ⊤
TakesMemory sessions (Bytes session piece) = (piece ≢ []) × ¬ (at_session sessions session ≡ Some Failed)
TakesMemory sessions (End session) = ⊥

-- what a piece leaves in its session: no whole message where all are answered, else at least one
abbrev pub Leaves : Bool → Remainder → Type 0
Leaves true left = IsSpent left
Leaves false left = ¬ IsSpent left

module _ {S : Type 0} (answers : S → Frame → List ℕ → S → Type 0) where
  -- a session takes a piece, and whole messages are answered: all, or a first part; others wait
  abbrev pub Answered : HubState S → ℕ → List ℕ → Bool → List Exchange → HubState S → Type 0
  Answered before session piece all exchanges after = (held : Remainder) × (left : Remainder)
      × (at_session before.sessions session ≡ Some held) × (after.sessions ≡ set_value (is_at (nat_cmp session)) before.sessions left)
      × Exchanges answers before.service (with_more held piece) exchanges after.service left × Leaves all left

  -- what an event does that is not refused, and the messages that it brings
  abbrev pub Does : HubState S → Happening → List Exchange → HubState S → Type 0
  Does before (Open session) exchanges after = (exchanges ≡ []) × (after ≡ record before { sessions = insert_entry nat_cmp before.sessions session (Rest []) })
  Does before (Bytes session piece) exchanges after = Answered before session piece true exchanges after
  Does before (End session) exchanges after = (exchanges ≡ []) × (after ≡ record before { sessions = remove_entry (is_at (nat_cmp session)) before.sessions })

  -- What a call with an event does. Where memory runs out nothing is done; or the piece was taken, a
  -- first part of the messages is answered, and the others, at least one, wait.
  abbrev pub Happens : HubState S → Happening → List ℕ → Result (Unit {0}) HubRefusal → HubState S → List ℕ → Type 0
  Happens before it output (Ok done) after grown = (due before.sessions it ≡ None) × (exchanges : List Exchange) × Does before it exchanges after × (grown ≡ output ++ replies exchanges)
  Happens before it output (Err (Memory false)) after grown = TakesMemory before.sessions it × (due before.sessions it ≡ None) × (after ≡ before) × (grown ≡ output)
  Happens before it output (Err (Memory true)) after grown = (session : ℕ) × (piece : List ℕ) × (exchanges : List Exchange) × (it ≡ Bytes session piece)
      × Answered before session piece false exchanges after × (grown ≡ output ++ replies exchanges)
  Happens before it output (Err TooManySessions) after grown = (due before.sessions it ≡ Some TooManySessions) × (after ≡ before) × (grown ≡ output)
  Happens before it output (Err SessionOpen) after grown = (due before.sessions it ≡ Some SessionOpen) × (after ≡ before) × (grown ≡ output)
  Happens before it output (Err NoSession) after grown = (due before.sessions it ≡ Some NoSession) × (after ≡ before) × (grown ≡ output)

  -- an event that is refused does nothing and brings no message; another one does what it does
  abbrev pub DoesUnlessRefused : HubState S → Happening → List Exchange → HubState S → Type 0
  DoesUnlessRefused before it exchanges after =
      ((refusal : HubRefusal) × (due before.sessions it ≡ Some refusal) × (exchanges ≡ []) × (after ≡ before))
      ⊎ ((due before.sessions it ≡ None) × Does before it exchanges after)

  -- what is done of events where memory ran out: nothing, or a first part of the first one
  abbrev pub IsPart : HubState S → List Happening → HubState S → Type 0
  IsPart before [] after = after ≡ before
  IsPart before (it ∷ more) after = (after ≡ before)
      ⊎ ((session : ℕ) × (piece : List ℕ) × (exchanges : List Exchange) × (it ≡ Bytes session piece) × Answered before session piece false exchanges after)

  -- what a piece does where its session is looked for: there is none, or it alone hears
  abbrev pub HearsAt : HubState S → ℕ → List ℕ → List ℕ → Result (Unit {0}) HubRefusal → HubState S → List ℕ → Type 0
  HearsAt before session piece output result after grown =
      ((at_session before.sessions session ≡ None) × (result ≡ Err NoSession) × (after ≡ before) × (grown ≡ output))
      ⊎ ((held : Remainder) × (left : Remainder) × (at_session before.sessions session ≡ Some held) × (after.sessions ≡ set_value (is_at (nat_cmp session)) before.sessions left)
      × HearsPiece answers before.service held piece output result after.service left grown)
