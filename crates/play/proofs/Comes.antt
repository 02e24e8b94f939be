-- What comes of a request that was asked, and the words of its reply.
use Rattle.std.proofs.Common.{◌≡◌, ◌≢◌, Option, Some, None, Ok, Err, refl, sym, ap, ◌∙◌, inl, inr}
use Rattle.commands.specs.Operations.{Operation}
use Rattle.book.specs.declared.keeper.NoKeeper.{NoKeeper}
use Rattle.book.specs.declared.record.Record.{Record}
use Rattle.book.specs.declared.directory_refusal.Refusal.{Refusal}
use Rattle.book.specs.declared.directory_refusal.Refusal.TheVariants.{Memory}
use Rattle.book.specs.declared.reply.Reply.{Reply}
use Rattle.book.specs.declared.reply.Reply.TheVariants as reply
use Rattle.book.specs.Steps.{Answer, Outcome, Answers, Refuses, step, kept_of}
use Rattle.book.specs.Books.{Book}
use Rattle.book.specs.Keeps.{KeepsNothing, NeverFails}
use Rattle.book.specs.Refusals.{book_refusal_number}
use Rattle.book.specs.Shows.{Provider, index_of}
use Rattle.book.specs.Turns.{Declines, Shows, Turn}
use Rattle.book.proofs.Stepping.{Does, due_steps, refused_due, stepped}
use Rattle.play.specs.Messages as message
use Rattle.play.specs.Messages.{comes_of, upshot_of}

-- ---- what comes of a command

module _ (provider : Provider) (book after : Book) (asked : Operation) where
  -- the reply shows the answer that the book does, or it is the refusal
  abbrev pub Comes : Reply → message.Upshot → Type 0
  Comes said (Ok answer) = Does book asked answer after × Shows provider after answer said
  Comes said (Err code) = (why : Refusal) × (said ≡ reply.Refused why) × (code ≡ book_refusal_number why)

  pub record HasCome (said : Reply) : Type 0 where
    pub told : message.Upshot
    pub is : comes_of (index_of provider) book (Ok asked) ≡ (told, after)
    pub comes : Comes said told

  abbrev comes_to : Outcome × Book → message.Upshot × Book
  comes_to now = (upshot_of now.0, now.1)

  answered : (said : Reply) (answer : Answer) → step (index_of provider) book asked ≡ (Answers answer, after) → Shows provider after answer said → HasCome said
  answered said answer steps shows =
      record { told = Ok answer; is = ap comes_to steps; comes = ((stepped (index_of provider) book asked answer after steps).does, shows) }

  refused : (why : Refusal) (keeper later : NoKeeper) → after ≡ book → why ≢ Memory
      → (outcome : Outcome) → (step (index_of provider) book asked).0 ≡ outcome → (lost : Option Record) → Declines provider KeepsNothing NeverFails outcome lost keeper why later → HasCome (reply.Refused why)
  refused why keeper later stays fine (Refuses due) is lost (same, kept) = record {
    told = Err (book_refusal_number why);
    is = ap comes_to (due_steps (index_of provider) book asked due (refused_due (index_of provider) book asked due is)) ∙ ap (λ (w : Refusal). comes_to (Refuses w, book)) (sym same) ∙ ap (λ (b : Book). comes_to (Refuses why, b)) (sym stays);
    comes = (why, refl, refl);
  }
  refused why keeper later stays fine (Answers answer) is None declines = absurd declines
  refused why keeper later stays fine (Answers answer) is (Some lost) (inl (memory, kept)) = absurd (fine memory)
  refused why keeper later stays fine (Answers answer) is (Some lost) (inr (failed, never)) = absurd never

  pub turn_comes : (said : Reply) (keeper later : NoKeeper) → Turn provider KeepsNothing NeverFails book keeper asked said after later → said ≢ reply.Refused Memory → HasCome said
  turn_comes (reply.Refused why) keeper later (stays, declines) fine =
      refused why keeper later stays (λ memory. fine (ap (λ (w : Refusal). reply.Refused w) memory)) (step (index_of provider) book asked).0 refl (kept_of book asked) declines
  turn_comes (reply.Promised signed) keeper later (answer, steps, kept, shows) fine = answered (reply.Promised signed) answer steps shows
  turn_comes (reply.Found text) keeper later (answer, steps, kept, shows) fine = answered (reply.Found text) answer steps shows
  turn_comes (reply.Told items) keeper later (answer, steps, kept, shows) fine = answered (reply.Told items) answer steps shows
  turn_comes (reply.Last root) keeper later (answer, steps, kept, shows) fine = answered (reply.Last root) answer steps shows
