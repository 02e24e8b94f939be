-- What a call of a directory has to do: refuse what the book refuses; else keep the record, answer, and show
-- the answer.
use Rattle.std.proofs.Common.{◌≡◌, Option, Some, None, refl, sym, ap, subst, inl, inr}
use Rattle.book.specs.declared.record.Record.{Record}
use Rattle.book.specs.declared.directory_refusal.Refusal.{Refusal}
use Rattle.book.specs.declared.directory_refusal.Refusal.TheVariants.{Memory, KeepFailed}
use Rattle.book.specs.declared.reply.Reply.{Reply}
use Rattle.book.specs.declared.reply.Reply.TheVariants as reply
use Rattle.book.specs.Steps.{Answer, refusal, Outcome, Answers, Refuses, step, kept_of}
use Rattle.commands.specs.Operations.{Operation}
use Rattle.book.specs.Books.{Book}
use Rattle.book.specs.Shows.{Provider, index_of}
use Rattle.book.specs.Turns.{Declines, KeepsOne, Shows, Turn}
use Rattle.book.proofs.Stepping.{Does, does_steps, due_steps}

module _ (provider : Provider) {K : Type 0} (kept failed : K → Record → K → Type 0) where
  -- what the book refuses is refused
  pub refuses : (book : Book) (keeper : K) (asked : Operation) (why : Refusal) → refusal (index_of provider) book asked ≡ Some why → Turn provider kept failed book keeper asked (reply.Refused why) book keeper
  refuses book keeper asked why due =
      let is : Refuses why ≡ (step (index_of provider) book asked).0 = sym (ap (λ (x : Outcome × Book). x.0) (due_steps (index_of provider) book asked why due)) in
      (refl, subst (λ (outcome : Outcome). Declines provider kept failed outcome (kept_of book asked) keeper why keeper) is (refl, refl))

  module _ (book after : Book) (asked : Operation) (answer : Answer) (none : refusal (index_of provider) book asked ≡ None) (does : Does book asked answer after) where
    is-answer : Answers answer ≡ (step (index_of provider) book asked).0
    is-answer = sym (ap (λ (x : Outcome × Book). x.0) (does_steps (index_of provider) book asked answer after none does))

    declines : (lost : Record) (keeper keeper_after : K) (why : Refusal) → kept_of book asked ≡ Some lost → Declines provider kept failed (Answers answer) (Some lost) keeper why keeper_after
        → Turn provider kept failed book keeper asked (reply.Refused why) book keeper_after
    declines lost keeper keeper_after why is d = (
      refl,
      subst (λ (outcome : Outcome). Declines provider kept failed outcome (kept_of book asked) keeper why keeper_after) is-answer
          (subst (λ (what : Option Record). Declines provider kept failed (Answers answer) what keeper why keeper_after) (sym is) d),
    )

    -- for want of memory, a command that has a record to keep may be refused
    pub wants : (keeper : K) (lost : Record) → kept_of book asked ≡ Some lost → Turn provider kept failed book keeper asked (reply.Refused Memory) book keeper
    wants keeper lost is = declines lost keeper keeper Memory is (inl (refl, refl))

    -- and so it is where the keeper failed
    pub fails : (keeper keeper_after : K) (lost : Record) → kept_of book asked ≡ Some lost → failed keeper lost keeper_after → Turn provider kept failed book keeper asked (reply.Refused KeepFailed) book keeper_after
    fails keeper keeper_after lost is failing = declines lost keeper keeper_after KeepFailed is (inr (refl, failing))

    -- the answer is shown
    pub answers : (keeper keeper_after : K) (said : Reply) → KeepsOne provider kept failed keeper (kept_of book asked) keeper_after → Shows provider after answer said
        → Turn provider kept failed book keeper asked said after keeper_after
    answers keeper keeper_after (reply.Promised promised) keeps shows = (answer, does_steps (index_of provider) book asked answer after none does, keeps, shows)
    answers keeper keeper_after (reply.Found text) keeps shows = (answer, does_steps (index_of provider) book asked answer after none does, keeps, shows)
    answers keeper keeper_after (reply.Told told) keeps shows = (answer, does_steps (index_of provider) book asked answer after none does, keeps, shows)
    answers keeper keeper_after (reply.Last root) keeps shows = (answer, does_steps (index_of provider) book asked answer after none does, keeps, shows)
    answers keeper keeper_after (reply.Refused why) keeps shows = absurd shows
