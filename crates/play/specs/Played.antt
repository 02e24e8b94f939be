-- A script played: which lines each of its lines prints. There are books of pages and maps, no tree and no
-- proof. Of hashes there is only the index of a name, by which two names are told apart.
use Rattle.std.specs.Prelude.{ℕ, nat_lt, if◌then◌else◌, List, [], ◌∷◌, ◌++◌, length, map, Option, Ok, replicate}
use Rattle.rand_core.specs.Stream as salt
use Rattle.commands.specs.Operations.{bound_key}
use Rattle.encoding.specs.declared.bound_key.BoundKey.{BoundKey}
use Rattle.wire.specs.Requests.{RequestContent, Put}
use Rattle.wire.specs.Streams.{Remainder, Message, Rest}
use Rattle.book.specs.Books.{Book, pages}
use Rattle.book.specs.Fresh as books
use Rattle.hub.specs.Events.{BySession, Happening, Open, Bytes}
use Rattle.hub.specs.Events as event
use Rattle.play.specs.declared.engine.TheConstants.{OWN_SESSION}
use Rattle.play.specs.Lines.{answer_text, checked_text, last_epoch, of_session, upshot_text}
use Rattle.play.specs.Messages.{Upshot, asks, comes_of, heard, held_after, request_asks}
use Rattle.play.specs.Scripts.{ScriptLine, Pass, Ask, Watch as Watching, Piece, End}
use Rattle.play.specs.Watchers.{Watcher, all_through, handed, through}

-- how a script stands: the book, what each session holds, and the monitors in the order of their lines
pub record Stand : Type 0 where
  pub book : Book
  pub sessions : BySession Remainder
  pub watchers : List Watcher

-- the book of epoch 1 without a name; the script's own session is open, and there is no monitor
abbrev pub opening : salt.Stream → Stand
opening salts = record { book = books.fresh 1 (replicate 32 0) salts; sessions = (OWN_SESSION, Rest []) ∷ []; watchers = [] }

-- only a registration or a change hands out its promise
abbrev pub after_promise : RequestContent → ℕ → Upshot → List Watcher → List Watcher
after_promise (Put verb name key) epoch (Ok answer) watchers = handed name epoch (bound_key key) watchers
after_promise requested epoch said watchers = watchers

-- a piece of a session's stream: the session is opened, unless it is open or too many are, and takes it
abbrev pub piece_events : ℕ → List ℕ → List Happening
piece_events session piece = Open session ∷ Bytes session piece ∷ []

-- a monitor that begins at the last page
abbrev pub watcher_of : Book → List ℕ → Option BoundKey → Watcher
watcher_of book name start = record { name = name; watch = record { start = start; changes = [] }; behind = last_epoch book.earlier }

module _ (index_of : List ℕ → List ℕ) where
  -- the monitors go on if the book has a new page
  abbrev pub watch_on : Book → Book → List Watcher → List (List ℕ) × List Watcher
  watch_on before after watchers =
      if nat_lt (length (pages before)) (length (pages after)) then all_through index_of (pages after) watchers else ([], watchers)

  -- a line that asks: what comes of it, and then what the monitors say
  abbrev pub ask : Stand → RequestContent → List (List ℕ) × Stand
  ask stand requested =
      let now = comes_of index_of stand.book (request_asks requested) in
      let seen = watch_on stand.book now.1 stand.watchers in (
        upshot_text (checked_text index_of now.1) now.0 ∷ seen.0,
        record stand { book = now.1; watchers = after_promise requested stand.book.last.epoch now.0 seen.1 },
      )

  -- messages of other sessions: what each is told, and the book after them
  abbrev pub answered : Book → List Message → List (List ℕ) × Book
  answered book [] = ([], book)
  answered book (message ∷ more) =
      let now = comes_of index_of book (asks message) in
      let later = answered now.1 more in
      (upshot_text (answer_text now.1) now.0 ∷ later.0, later.1)

  -- a piece of a session: what is told to it, and then what the monitors say
  abbrev pub hear : Stand → ℕ → List ℕ → List (List ℕ) × Stand
  hear stand session piece =
      let events = piece_events session piece in
      let now = answered stand.book (heard stand.sessions events) in
      let seen = watch_on stand.book now.1 stand.watchers in (
        map (of_session session) now.0 ++ seen.0,
        record stand { book = now.1; sessions = held_after stand.sessions events; watchers = seen.1 },
      )

  -- a monitor watches the last page at once
  abbrev pub watch : Stand → List ℕ → Option BoundKey → List (List ℕ) × Stand
  watch stand name start =
      let now = through index_of (watcher_of stand.book name start) (stand.book.last ∷ []) in
      (now.0, record stand { watchers = stand.watchers ++ now.1 ∷ [] })

  -- the lines that a line prints, and how the script stands after it
  abbrev pub line_played : Stand → ScriptLine → List (List ℕ) × Stand
  line_played stand Pass = ([], stand)
  line_played stand (Ask requested) = ask stand requested
  line_played stand (Watching name start) = watch stand name start
  line_played stand (Piece session piece) = hear stand session piece
  line_played stand (End session) = ([], record stand { sessions = held_after stand.sessions (event.End session ∷ []) })
