-- What the messages of sessions ask of the directory, and what comes of each.
use Rattle.std.specs.Prelude.{ℕ, List, [], ◌∷◌, map, Result, Ok, Err}
use Rattle.commands.specs.Operations.{Operation}
use Rattle.wire.specs.declared.message_refusals.FeedRefusal.TheVariants as feed
use Rattle.wire.specs.declared.message_refusals.ReadRefusal.{ReadRefusal}
use Rattle.wire.specs.declared.message_refusals.ReadRefusal.TheVariants.{BadBody}
use Rattle.wire.specs.Refusals.{feed_refusal_number, read_refusal_number}
use Rattle.wire.specs.Requests.{RequestContent, read_request}
use Rattle.wire.specs.Streams.{Remainder, Message, Whole, BadFrame}
use Rattle.book.specs.Steps.{Answer, Outcome, Answers, Refuses, step}
use Rattle.book.specs.Books.{Book}
use Rattle.book.specs.Refusals.{book_refusal_number}
use Rattle.hub.specs.Desks.{command, or_not_operator}
use Rattle.hub.specs.Events.{BySession, Happening}
use Rattle.hub.specs.Runs.{after_events, commands, each, rest_of, unanswered}
use Rattle.play.specs.Scripts.{token}

-- ---- what is asked

-- what a request asks, or the number of its refusal
abbrev pub request_asks : RequestContent → Result Operation ℕ
request_asks requested = or_not_operator (command token requested)

-- what was read is a request if nothing is left behind it
abbrev pub reading_asks : Result (RequestContent × List ℕ) ReadRefusal → Result Operation ℕ
reading_asks (Ok (requested, [])) = request_asks requested
reading_asks (Ok (requested, _ ∷ _)) = Err (read_refusal_number BadBody)
reading_asks (Err refusal) = Err (read_refusal_number refusal)

-- what a message asks, or the number of its refusal
abbrev pub asks : Message → Result Operation ℕ
asks (Whole frame) = reading_asks (read_request frame.kind frame.body)
asks BadFrame = Err (feed_refusal_number feed.BadFrame)

-- ---- what comes of it

-- what comes of a message: an answer, or the number of a refusal
abbrev pub Upshot : Type 0
Upshot = Result Answer ℕ

abbrev pub upshot_of : Outcome → Upshot
upshot_of (Answers answer) = Ok answer
upshot_of (Refuses why) = Err (book_refusal_number why)

-- the upshot of what is asked, and the book after it
abbrev pub comes_of : (List ℕ → List ℕ) → Book → Result Operation ℕ → Upshot × Book
comes_of index_of book (Ok asked) = let now = step index_of book asked in (upshot_of now.0, now.1)
comes_of index_of book (Err code) = (Err code, book)

-- ---- events of sessions

-- the messages that events bring, of whichever session, where the sessions hold this
abbrev pub heard : BySession Remainder → List Happening → List Message
heard sessions events = map (λ one. one.1) (commands (each unanswered sessions) events)

-- what the sessions hold after events
abbrev pub held_after : BySession Remainder → List Happening → BySession Remainder
held_after sessions events = each rest_of (after_events (each unanswered sessions) events)
