-- One session, from a reader to a writer.
use Rattle.std.specs.Prelude.{◌≡◌, ◌≤◌, ℕ, List, [], ◌∷◌, ◌++◌, length, flat_map, Option, Result, Ok, Err}
use Rattle.std.specs.Io.KnownBytes.{Appends, Consumes, IsAtEnd}
use Rattle.textio.specs.Output.{WritesBeginning}
use Rattle.rand_core.specs.Stream.{Stream}
use Rattle.wire.specs.Frames.{Frame}
use Rattle.wire.specs.Streams.{Message, Rest, messages}
use Rattle.book.specs.declared.record.Record.{Record}
use Rattle.hub.specs.DeskRuns.{ShowHonestRun}
use Rattle.hub.specs.Desks.{DeskState, DeskAnswers}
use Rattle.hub.specs.Exchanges.{Exchange, exchange_messages, replies}
use Rattle.hub.specs.Runs.{lines, AllAnswered, Line}
use Rattle.server.specs.declared.serve_fault.ServeFault.{ServeFault}
use Rattle.server.specs.declared.serve_fault.ServeFault.TheVariants.{CannotRead, CannotWrite, OutOfMemory, OutOfMemoryAndCannotWrite}
use Rattle.textio.specs.declared.some_bytes.TheConstants.{PIECE_SIZE}

-- the messages that these bytes spell
abbrev pub spelled : List ℕ → List Message
spelled bytes = (messages (Rest bytes)).0

-- each message is answered as the service stands after those before it
abbrev pub AllReplied : {S : Type 0} → (S → Frame → List ℕ → S → Type 0) → ℕ → S → List Exchange → S → Type 0
AllReplied answers session before exchanges after = AllAnswered answers before (lines session exchanges) after

-- the same at a desk, and the replies show a run of its directory, and what its users see of that run
abbrev pub RepliedHonestly : {R K : Type 0} → (List ℕ → List ℕ) → (List ℕ → List ℕ → List ℕ) → (List ℕ → List ℕ → List ℕ) → (R → Stream) → (K → Record → K → Type 0) → (K → Record → K → Type 0)
    → (List ℕ → List ℕ → List ℕ → Type 0) → (List ℕ → List ℕ → List ℕ → Type 0) → ℕ → DeskState R K → List Exchange → DeskState R K → Type 0
RepliedHonestly digest_of value_of signature_of stream kept failed accepted verified session before exchanges after =
    AllReplied (DeskAnswers digest_of value_of signature_of stream kept failed) session before exchanges after
    × ShowHonestRun digest_of value_of signature_of stream kept failed accepted verified before (lines session exchanges) after

-- sessions are served one after another, of each its number, and its messages with their replies
abbrev pub AllServed : {S : Type 0} → (S → Frame → List ℕ → S → Type 0) → S → List (ℕ × List Exchange) → S → Type 0
AllServed answers before [] after = after ≡ before
AllServed {S} answers before (one ∷ more) after = (middle : S) × AllReplied answers one.0 before one.1 middle × AllServed answers middle more after

-- the messages of all of them, with their replies
abbrev pub all_lines : List (ℕ × List Exchange) → List Line
all_lines = flat_map (λ one. lines one.0 one.1)

-- what is served where messages are replied to so
module _ {S : Type 0} (Replied : S → List Exchange → S → Type 0) where
  -- these are the messages of the bytes with their replies
  abbrev pub AnswersEach : S → List ℕ → List Exchange → S → Type 0
  AnswersEach service bytes exchanges after = (spelled bytes ≡ exchange_messages exchanges) × Replied service exchanges after

  -- these are the first messages of the bytes with their replies
  abbrev pub AnswersFirst : S → List ℕ → List Exchange → S → Type 0
  AnswersFirst service bytes exchanges after = (later : List Message) × (spelled bytes ≡ exchange_messages exchanges ++ later) × Replied service exchanges after

  -- these are the messages of the first bytes with their replies, and of the last bytes, at most one read, the first ones
  abbrev pub AnswersPart : S → List ℕ → List ℕ → List Exchange → List Exchange → S → Type 0
  AnswersPart service front last earlier later after = (length last ≤ PIECE_SIZE) × (spelled front ≡ exchange_messages earlier)
      × AnswersFirst service (front ++ last) (earlier ++ later) after

  -- What comes of the bytes that are read: all their messages are answered, and the replies written, up
  -- to the end of the input or to a failed read. Where a write fails, those to the last bytes, at most one
  -- read, are not written whole, and all before them are. Where memory is wanting, messages of the last bytes
  -- may wait, and the replies to the others are written; if that write fails too, not whole.
  abbrev pub Serves : S → Option (List ℕ) → Option (List ℕ) → Result (Unit {0}) ServeFault → S → Option (List ℕ) → Option (List ℕ) → Type 0
  Serves before input written (Ok done) after left told = (bytes : List ℕ) × (exchanges : List Exchange)
      × Consumes input left bytes × IsAtEnd left × AnswersEach before bytes exchanges after × Appends written told (replies exchanges)
  Serves before input written (Err CannotRead) after left told = (bytes : List ℕ) × (exchanges : List Exchange)
      × Consumes input left bytes × AnswersEach before bytes exchanges after × Appends written told (replies exchanges)
  Serves before input written (Err CannotWrite) after left told = (front last : List ℕ) × (earlier later : List Exchange) × (between : Option (List ℕ))
      × Consumes input left (front ++ last) × (length last ≤ PIECE_SIZE) × AnswersEach before (front ++ last) (earlier ++ later) after × (spelled front ≡ exchange_messages earlier)
      × Appends written between (replies earlier) × WritesBeginning between told (replies later)
  Serves before input written (Err OutOfMemory) after left told = (front last : List ℕ) × (earlier later : List Exchange)
      × Consumes input left (front ++ last) × AnswersPart before front last earlier later after × Appends written told (replies (earlier ++ later))
  Serves before input written (Err OutOfMemoryAndCannotWrite) after left told = (front last : List ℕ) × (earlier later : List Exchange) × (between : Option (List ℕ))
      × Consumes input left (front ++ last) × AnswersPart before front last earlier later after
      × Appends written between (replies earlier) × WritesBeginning between told (replies later)
