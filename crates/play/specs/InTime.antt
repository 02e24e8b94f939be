-- That each promise which a script hands to a monitor comes in time: after those that the monitor expects.
use Rattle.std.specs.Prelude.{◌≡◌, ◌⊎◌, ℕ, ◌<◌, true, List, Ok, is_some}
use Rattle.std.specs.List.{AllByRecursion}
use Rattle.rand_core.specs.Stream.{Stream}
use Rattle.commands.specs.declared.edit.Verb.{Verb}
use Rattle.encoding.specs.declared.bound_key.BoundKey.{BoundKey}
use Rattle.commands.specs.Operations.{AskedKey, Edit, Put}
use Rattle.book.specs.Steps.{Answer}
use Rattle.book.specs.Books.{Book}
use Rattle.encoding.specs.Maps.{at}
use Rattle.play.specs.Laws.{after_lines}
use Rattle.play.specs.Messages.{comes_of}
use Rattle.play.specs.Played.{opening}
use Rattle.play.specs.Watchers.{Watcher}

-- the change was promised over the root of a page before the last, or over that of the last, and waits
abbrev pub IsInTime : Book → List ℕ → ℕ × BoundKey → Type 0
IsInTime book name change = (change.0 < book.last.epoch) ⊎ ((change.0 ≡ book.last.epoch) × (is_some (at book.pending name) ≡ true))

-- each change that a monitor expects
abbrev pub AreInTime : Book → List Watcher → Type 0
AreInTime book = AllByRecursion (λ (watcher : Watcher). AllByRecursion (IsInTime book watcher.name) watcher.watch.changes)

-- After any lines of a script, each change that a monitor expects is such.
abbrev pub MonitorsAreInTime : Type 0
MonitorsAreInTime = (index_of : List ℕ → List ℕ) (salts : Stream) (lines : List (List ℕ))
    → let stand = after_lines index_of (opening salts) lines in AreInTime stand.book stand.watchers

-- A key that is then accepted for a name is promised above all changes that a monitor of the name expects.
abbrev pub PromisesAreLater : Type 0
PromisesAreLater = (index_of : List ℕ → List ℕ) (book : Book) (verb : Verb) (name : List ℕ) (key : AskedKey) (answer : Answer) (changes : List (ℕ × BoundKey))
    → (comes_of index_of book (Ok (Edit (Put verb name key)))).0 ≡ Ok answer → AllByRecursion (IsInTime book name) changes
    → AllByRecursion (λ change. change.0 < book.last.epoch) changes
