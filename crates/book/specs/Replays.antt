-- A record carried out once more: the command that it was kept of, under the record's salt. The salts to come
-- stay.
use Rattle.std.specs.Prelude.{◌≡◌, ◌⊎◌, ℕ, List, [], ◌∷◌, Option, Some, None, option_map, option_and_then}
use Rattle.book.specs.declared.record.Record.{Record}
use Rattle.book.specs.declared.record.Record.TheVariants.{Bound}
use Rattle.book.specs.declared.directory_refusal.Refusal.{Refusal}
use Rattle.book.specs.declared.directory_refusal.Refusal.TheVariants.{Memory}
use Rattle.commands.specs.declared.edit.Verb.{Verb}
use Rattle.commands.specs.Operations.{Edit}
use Rattle.book.specs.Steps.{first, put_tests, refusal, Outcome, Answers, Refuses, step, kept_edit}
use Rattle.book.specs.Books.{Binding, Book}
use Rattle.encoding.specs.Maps.{put_at}

-- the book whose next salt is the record's, where it has one
abbrev pub with_salt_of : Record → Book → Book
with_salt_of (Bound verb salt name key) book = record book { salt = salt }
with_salt_of other book = book

-- the book with the salts to come of another
abbrev pub with_salts_of : Book → Book → Book
with_salts_of other book = record book { salt = other.salt; left = other.left }

-- the book in which this waits at a name too, while the salts to come stay
abbrev pub with_bound : Book → List ℕ → Binding → Book
with_bound book name binding = record book { pending = put_at book.pending name binding }

-- the book after a step, if it was not refused
abbrev pub after_answer : Outcome × Book → Option Book
after_answer (Answers answer, after) = Some after
after_answer (Refuses why, after) = None

module _ (index_of : List ℕ → List ℕ) where
  -- why the book refuses the command of a record, if it does
  abbrev pub replay_refusal : Book → Record → Option Refusal
  replay_refusal book kept = option_and_then (λ revision. refusal index_of (with_salt_of kept book) (Edit revision)) (kept_edit kept)

  -- why a name and a key that are allowed are not put to the book, if they are not
  abbrev pub put_refusal : Book → Verb → List ℕ → Option Refusal
  put_refusal book verb name = first (put_tests index_of book verb name)

  -- why a record is not carried out: its command is refused so, or memory is wanting
  abbrev pub IsUnreplayed : Book → Record → Refusal → Type 0
  IsUnreplayed book kept why = (replay_refusal book kept ≡ Some why) ⊎ ((why ≡ Memory) × (replay_refusal book kept ≡ None))

  -- the book after the command of a record, if the record has one that the book does not refuse
  abbrev pub replayed : Book → Record → Option Book
  replayed book kept = option_and_then (λ revision. option_map (with_salts_of book) (after_answer (step index_of (with_salt_of kept book) (Edit revision)))) (kept_edit kept)

  -- the book after records, one after another
  abbrev pub replayed_all : Book → List Record → Option Book
  replayed_all book [] = Some book
  replayed_all book (kept ∷ more) = option_and_then (λ after. replayed_all after more) (replayed book kept)
