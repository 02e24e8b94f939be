-- One call of a directory: which replies may come, and what they say of the book and the keeper; and
-- calls one after another.
use Rattle.std.specs.Prelude.{◌≡◌, ◌⊎◌, ℕ, List, [], ◌∷◌, Option, Some, None}
use Rattle.std.specs.List.{AllZip}
use Rattle.rootchain.specs.declared.signed_root.SignedRoot.{SignedRoot}
use Rattle.book.specs.declared.record.Record.{Record}
use Rattle.book.specs.declared.directory_refusal.Refusal.{Refusal}
use Rattle.book.specs.declared.directory_refusal.Refusal.TheVariants.{Memory, KeepFailed}
use Rattle.book.specs.declared.reply.Reply.{Reply}
use Rattle.book.specs.declared.reply.Reply.TheVariants as reply
use Rattle.book.specs.Steps.{Answer, Promised, Found, Told, Last, Outcome, Answers, Refuses, step, kept_of}
use Rattle.commands.specs.Operations.{Operation}
use Rattle.book.specs.Books.{Binding, Book, Page}
use Rattle.book.specs.Shows.{Provider, index_of, promise, signed_promise, IsReplyOf, IsRootOf}

-- why a command is refused that has a record to keep: memory is wanting, or the keeper failed to keep the record
abbrev pub IsUnkept : {K : Type 0} → (K → Record → K → Type 0) → K → Record → Refusal → K → Type 0
IsUnkept failed keeper lost why after = ((why ≡ Memory) × (after ≡ keeper)) ⊎ ((why ≡ KeepFailed) × failed keeper lost after)

module _ (provider : Provider) where
  -- the reply shows the answer of a book, as the book is after it
  abbrev pub Shows : Book → Answer → Reply → Type 0
  Shows book answer (reply.Promised signed) = (name : List ℕ) × (binding : Binding) × (root : SignedRoot)
      × (answer ≡ Promised name binding) × IsRootOf provider book book.last root × (signed ≡ signed_promise provider (promise provider root.body name binding))
  Shows book answer (reply.Found text) = (page : Page) × (name : List ℕ) × (found : Option Binding) × (root : SignedRoot)
      × (answer ≡ Found page name found) × IsRootOf provider book page root × IsReplyOf provider page root.body name found text
  Shows book answer (reply.Told told) = (pages : List Page) × (answer ≡ Told pages) × AllZip (IsRootOf provider book) pages told.items
  Shows book answer (reply.Last root) = (page : Page) × (answer ≡ Last page) × IsRootOf provider book page root
  Shows book answer (reply.Refused why) = ⊥

  module _ {K : Type 0} (kept failed : K → Record → K → Type 0) where
    -- the keeper kept the record, where there is one
    abbrev pub KeepsOne : K → Option Record → K → Type 0
    KeepsOne keeper None after = after ≡ keeper
    KeepsOne keeper (Some record_kept) after = kept keeper record_kept after

    -- why a call may refuse: as the step does; where the step does not, for want of memory or since the
    -- keeper failed, but only a command that has a record to keep
    abbrev pub Declines : Outcome → Option Record → K → Refusal → K → Type 0
    Declines (Refuses due) lost keeper why after = (why ≡ due) × (after ≡ keeper)
    Declines (Answers answer) None keeper why after = ⊥
    Declines (Answers answer) (Some lost) keeper why after = IsUnkept failed keeper lost why after

    -- a call: a refusal leaves the book; else the answer and the book after it are the step's, the record
    -- was kept, and the reply shows the answer
    abbrev pub Turn : Book → K → Operation → Reply → Book → K → Type 0
    Turn book keeper asked (reply.Refused why) book_after keeper_after =
        (book_after ≡ book) × Declines (step (index_of provider) book asked).0 (kept_of book asked) keeper why keeper_after
    Turn book keeper asked answered book_after keeper_after = (answer : Answer)
        × (step (index_of provider) book asked ≡ (Answers answer, book_after)) × KeepsOne keeper (kept_of book asked) keeper_after × Shows book_after answer answered

    -- calls one after another
    abbrev pub Run : Book → K → List Operation → List Reply → Book → K → Type 0
    Run book keeper [] [] book_after keeper_after = (book_after ≡ book) × (keeper_after ≡ keeper)
    Run book keeper (asked ∷ more) (answered ∷ replies) book_after keeper_after = (middle : Book) × (keeper_between : K)
        × Turn book keeper asked answered middle keeper_between × Run middle keeper_between more replies book_after keeper_after
    Run book keeper [] (answered ∷ replies) book_after keeper_after = ⊥
    Run book keeper (asked ∷ more) [] book_after keeper_after = ⊥

  -- the command is answered so, and is one that leaves the book as it is
  abbrev pub IsReadAnswer : Book → Operation → Answer → Type 0
  IsReadAnswer book asked answer = step (index_of provider) book asked ≡ (Answers answer, book)

  -- the command is refused so
  abbrev pub IsRefused : Book → Operation → Refusal → Type 0
  IsRefused book asked why = step (index_of provider) book asked ≡ (Refuses why, book)

  -- a call that keeps no record and leaves the book as it is: the reply shows the answer, or is the refusal
  abbrev pub ReadsOnly : Book → Operation → Reply → Type 0
  ReadsOnly book asked (reply.Refused why) = IsRefused book asked why
  ReadsOnly book asked answered = (answer : Answer) × IsReadAnswer book asked answer × Shows book answer answered
