-- A run as the fold of steps, under what memory and the keeper let happen.
use Rattle.std.specs.Prelude.{◌≡◌, ℕ, List, [], ◌∷◌, Option, Some, None, ⊤}
use Rattle.book.specs.declared.record.Record.{Record}
use Rattle.book.specs.declared.directory_refusal.Refusal.TheVariants.{Memory, KeepFailed}
use Rattle.book.specs.declared.reply.Reply.{Reply}
use Rattle.book.specs.declared.reply.Reply.TheVariants as reply
use Rattle.book.specs.Steps.{Promised, Found, Told, Last, Outcome, Answers, Refuses, step, kept_of}
use Rattle.commands.specs.Operations.{Operation}
use Rattle.book.specs.Books.{Book}

-- what becomes of a command that the book does not refuse: it is done; or it has a record to keep, and memory
-- is wanting or the keeper fails
pub data Fate : Type 0 where
  Done : Fate
  Wanting : Fate
  Lost : Fate

-- what comes of a command under its fate, by the record to keep, and by what the step gives
abbrev pub under_fate : Fate → Book → Option Record → Outcome × Book → Outcome × Book
under_fate fate book None (outcome, after) = (outcome, after)
under_fate fate book (Some kept) (Refuses why, after) = (Refuses why, after)
under_fate Done book (Some kept) (Answers answer, after) = (Answers answer, after)
under_fate Wanting book (Some kept) (Answers answer, after) = (Refuses Memory, book)
under_fate Lost book (Some kept) (Answers answer, after) = (Refuses KeepFailed, book)

-- an outcome before others
abbrev pub before : Outcome → List Outcome × Book → List Outcome × Book
before outcome (outcomes, after) = (outcome ∷ outcomes, after)

module _ (index_of : List ℕ → List ℕ) where
  -- the step of a command, under its fate
  abbrev pub step_under_fate : Fate → Book → Operation → Outcome × Book
  step_under_fate fate book asked = under_fate fate book (kept_of book asked) (step index_of book asked)

  -- steps one after another, each from the book that the one before left
  abbrev pub steps_under_fates : Book → List Operation → List Fate → List Outcome × Book
  steps_under_fates book [] fates = ([], book)
  steps_under_fates book (asked ∷ more) [] = ([], book)
  steps_under_fates book (asked ∷ more) (fate ∷ fates) = before (step_under_fate fate book asked).0 (steps_under_fates (step_under_fate fate book asked).1 more fates)

-- the reply is a refusal of the same name, or one of the answer's kind
abbrev pub TellsOutcome : Outcome → Reply → Type 0
TellsOutcome (Refuses why) (reply.Refused told) = told ≡ why
TellsOutcome (Answers (Promised name binding)) (reply.Promised signed) = ⊤
TellsOutcome (Answers (Found page name found)) (reply.Found text) = ⊤
TellsOutcome (Answers (Told pages)) (reply.Told told) = ⊤
TellsOutcome (Answers (Last page)) (reply.Last root) = ⊤
TellsOutcome outcome said = ⊥
