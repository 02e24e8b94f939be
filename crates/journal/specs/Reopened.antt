-- What a journal opens to, beside the run that was kept in it.
use Rattle.std.specs.Prelude.{ℕ, List, take, Option}
use Rattle.rand_core.specs.Stream.{Stream, fill_bytes}
use Rattle.commands.specs.Operations.{Operation}
use Rattle.book.specs.declared.reply.Reply.{Reply}
use Rattle.book.specs.Books.{Book}
use Rattle.book.specs.Fresh.{fresh}
use Rattle.book.specs.Shows.{Provider, index_of}
use Rattle.book.specs.Turns.{Run}
use Rattle.journal.specs.declared.beginning.Beginning.{Beginning}
use Rattle.journal.specs.Journals.{KeepsRecord, LosesRecord, JournalState}
use Rattle.journal.specs.Openings.{OpensTo}

-- the book with which a directory begins
abbrev pub begun : Beginning → Stream → Book
begun beginning salts = fresh beginning.epoch beginning.nonce salts

-- the book, where the salts to come are the first ones of this stream
abbrev pub with_stream : Stream → Book → Book
with_stream salts book = record book { salt = (fill_bytes 32 salts).0; left = (fill_bytes 32 salts).1 }

module _ (provider : Provider) {W : Type 0} (contents : W → Option (List ℕ)) where
  -- a run that is kept in a journal
  abbrev pub KeepsRun : Book → JournalState W → List Operation → List Reply → Book → JournalState W → Type 0
  KeepsRun = Run provider (KeepsRecord contents) (LosesRecord contents)

  -- the run of the first so many commands leaves this book
  abbrev pub LeavesBook : Book → JournalState W → List Operation → List Reply → ℕ → Book → Type 0
  LeavesBook book keeper commands replies n middle = (between : JournalState W) × KeepsRun book keeper (take n commands) (take n replies) middle between

  -- Bytes open to a beginning of a run: to the book after its first so many commands, with the same pages and the
  -- same that waits, while the salts to come are those handed in.
  abbrev pub OpensInto : List ℕ → List ℕ → Stream → Book → JournalState W → List Operation → List Reply → List ℕ → Book → Type 0
  OpensInto signing_key vuf_key salts book keeper commands replies bytes middle = (n : ℕ) × (taken : ℕ)
      × LeavesBook book keeper commands replies n middle
      × OpensTo (index_of provider) signing_key vuf_key salts bytes (with_stream salts middle) taken
