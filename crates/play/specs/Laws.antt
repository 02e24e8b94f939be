-- What is true of the lines that scripts print.
use Rattle.std.specs.Prelude.{◌≡◌, ◌⊎◌, ℕ, ◌+◌, ◌==◌, ◌&&◌, Bool, true, false, not, List, [], ◌∷◌, ◌++◌, take, Option, Some, None, Contains}
use Rattle.std.specs.List.{AllByRecursion}
use Rattle.std.specs.Str.{byte}
use Rattle.rand_core.specs.Stream.{Stream}
use Rattle.commands.specs.Operations.{Question, Promise, Lookup, History, Head}
use Rattle.textio.specs.Lines.{lines_of}
use Rattle.wire.specs.Requests.{RequestContent, Query}
use Rattle.book.specs.Steps.{page_range}
use Rattle.book.specs.Books.{Binding, Book, Page, pages}
use Rattle.book.specs.Sound.{IsSound}
use Rattle.play.specs.Lines.{refused_proof}
use Rattle.play.specs.Played.{Stand, line_played, opening}
use Rattle.play.specs.Printing.{printed}
use Rattle.play.specs.Scripts.{ScriptLine, Pass, Ask, Watch, Piece, End, line_of}
use Rattle.play.specs.Watchers.{Watcher, ahead}

-- the line begins neither with `{`, as evidence does, nor with `c`, as what a client refuses does
abbrev pub is_plain : List ℕ → Bool
is_plain [] = false
is_plain (first ∷ more) = not (first == byte "c") && not (first == byte "{")

abbrev pub IsPlain : List ℕ → Type 0
IsPlain line = is_plain line ≡ true

-- No line is evidence, or tells that a client refuses something, but that it refuses the proof of a
-- double index.
abbrev pub LinesArePlain : Type 0
LinesArePlain = (index_of : List ℕ → List ℕ) (salts : Stream) (script : List ℕ)
    → AllByRecursion (λ line. (line ≡ refused_proof) ⊎ IsPlain line) (printed index_of salts script).lines

-- ---- where indices differ

-- the proof of this name is checked: it is looked up, or watched
abbrev pub IsQuestioned : Question → List ℕ → Type 0
IsQuestioned (Lookup name epoch) other = name ≡ other
IsQuestioned (Promise name) other = ⊥
IsQuestioned (History from count) other = ⊥
IsQuestioned Head other = ⊥

abbrev pub IsRequested : RequestContent → List ℕ → Type 0
IsRequested (Query question) other = IsQuestioned question other
IsRequested requested other = ⊥

abbrev pub IsChecked : Option ScriptLine → List ℕ → Type 0
IsChecked (Some (Ask requested)) other = IsRequested requested other
IsChecked (Some (Watch name start)) other = name ≡ other
IsChecked (Some Pass) other = ⊥
IsChecked (Some (Piece session piece)) other = ⊥
IsChecked (Some (End session)) other = ⊥
IsChecked None other = ⊥

-- by one of these lines
abbrev pub IsCheckedIn : List (List ℕ) → List ℕ → Type 0
IsCheckedIn [] name = ⊥
IsCheckedIn (line ∷ more) name = IsChecked (line_of line) name ⊎ IsCheckedIn more name

-- a page of the book has the name
abbrev pub IsOnPage : Book → List ℕ → Type 0
IsOnPage book name = (page : Page) × (entry : List ℕ × Binding) × Contains (pages book) page × Contains page.bindings entry × (entry.0 ≡ name)

module _ (index_of : List ℕ → List ℕ) where
  -- how a script stands after a line, unless it is no command
  abbrev pub script_after_line : Stand → Option ScriptLine → (Stand → Stand) → Stand
  script_after_line stand None next = stand
  script_after_line stand (Some line) next = next (line_played index_of stand line).1

  -- how it stands after lines, up to the first that is no command
  abbrev pub after_lines : Stand → List (List ℕ) → Stand
  after_lines stand [] = stand
  after_lines stand (line ∷ more) = script_after_line stand (line_of line) (λ after. after_lines after more)

  -- a name whose proof is checked, and a name of a page, are one name if they have one index
  abbrev pub NamesDiffer : Stream → List ℕ → Type 0
  NamesDiffer salts script = (name other : List ℕ) → IsCheckedIn (lines_of script) name
      → IsOnPage (after_lines (opening salts) (lines_of script)).book other → index_of other ≡ index_of name → other ≡ name

-- Where the names in use have indices of their own, no line tells that a client refuses something.
abbrev pub NothingIsRefused : Type 0
NothingIsRefused = (index_of : List ℕ → List ℕ) (salts : Stream) (script : List ℕ) → NamesDiffer index_of salts script
    → AllByRecursion IsPlain (printed index_of salts script).lines

-- ---- what comes behind a page

-- Behind a page of a sound book come the pages that are told from the next epoch on, and those that a monitor
-- watches which has that page behind it.
abbrev pub HistoryGoesOn : Type 0
HistoryGoesOn = (index_of : List ℕ → List ℕ) (book : Book) (front more : List Page) (page : Page) (count : ℕ) → IsSound index_of book → pages book ≡ front ++ page ∷ more
    → page_range book (page.epoch + 1) count ≡ take count more

abbrev pub MonitorsGoOn : Type 0
MonitorsGoOn = (index_of : List ℕ → List ℕ) (book : Book) (front more : List Page) (page : Page) (watcher : Watcher) → IsSound index_of book → pages book ≡ front ++ page ∷ more
    → watcher.behind ≡ page.epoch → ahead watcher (pages book) ≡ more
