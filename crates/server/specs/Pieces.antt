-- One piece of a session that is served.
use Rattle.std.specs.Prelude.{◌≡◌, ℕ, List, Option, Some, Result, Ok, Err}
use Rattle.std.specs.Ordering.{nat_cmp}
use Rattle.std.specs.BTreeMap.{is_at}
use Rattle.std.specs.Map.{set_value}
use Rattle.std.specs.Io.KnownBytes.{Appends}
use Rattle.textio.specs.Output.{WritesBeginning}
use Rattle.wire.specs.Frames.{Frame}
use Rattle.wire.specs.Streams.{Remainder, with_more, IsSpent}
use Rattle.hub.specs.Events.{HubState, at_session}
use Rattle.hub.specs.Exchanges.{Exchange, Exchanges, replies}
use Rattle.server.specs.declared.serve_fault.ServeFault.{ServeFault}
use Rattle.server.specs.declared.serve_fault.ServeFault.TheVariants.{CannotRead, CannotWrite, OutOfMemory, OutOfMemoryAndCannotWrite}

module _ {S : Type 0} (answers : S → Frame → List ℕ → S → Type 0) where
  -- the session answers the first messages of what it held and a piece, and what is left waits: the session then
  -- holds that, or what it held if the piece was not taken
  abbrev pub GoesPart : HubState S → ℕ → Remainder → List ℕ → List Exchange → HubState S → Remainder → Remainder → Type 0
  GoesPart before session held piece exchanges after left kept = (at_session before.sessions session ≡ Some held)
      × (after.sessions ≡ set_value (is_at (nat_cmp session)) before.sessions kept)
      × Exchanges answers before.service (with_more held piece) exchanges after.service left

  -- the session answers these messages, and then holds what is left
  abbrev pub Goes : HubState S → ℕ → Remainder → List ℕ → List Exchange → HubState S → Remainder → Type 0
  Goes before session held piece exchanges after left = GoesPart before session held piece exchanges after left left

  -- a piece is answered in its session, and the replies are written; where memory is wanting, these are to its first messages
  abbrev pub AnswersPiece : HubState S → ℕ → List ℕ → Option (List ℕ) → Result (Unit {0}) ServeFault → HubState S → Option (List ℕ) → Type 0
  AnswersPiece before session piece written (Ok done) after told = (held : Remainder) × (exchanges : List Exchange) × (left : Remainder)
      × Goes before session held piece exchanges after left × IsSpent left × Appends written told (replies exchanges)
  AnswersPiece before session piece written (Err CannotWrite) after told = (held : Remainder) × (exchanges : List Exchange) × (left : Remainder)
      × Goes before session held piece exchanges after left × IsSpent left × WritesBeginning written told (replies exchanges)
  AnswersPiece before session piece written (Err OutOfMemory) after told = (held : Remainder) × (exchanges : List Exchange) × (left kept : Remainder)
      × GoesPart before session held piece exchanges after left kept × Appends written told (replies exchanges)
  AnswersPiece before session piece written (Err OutOfMemoryAndCannotWrite) after told = (held : Remainder) × (exchanges : List Exchange) × (left kept : Remainder)
      × GoesPart before session held piece exchanges after left kept × WritesBeginning written told (replies exchanges)
  AnswersPiece before session piece written (Err CannotRead) after told = ⊥
