-- A run is the fold of steps under the fates of its commands.
use Rattle.std.proofs.Common.{◌≡◌, ℕ, suc, List, [], ◌∷◌, length, Option, Some, None, refl, sym, ap, subst, inl, inr, ◌∙◌}
use Rattle.std.specs.List.{AllZip}
use Rattle.book.specs.declared.record.Record.{Record}
use Rattle.book.specs.declared.directory_refusal.Refusal.{Refusal}
use Rattle.book.specs.declared.reply.Reply.{Reply}
use Rattle.book.specs.declared.reply.Reply.TheVariants as reply
use Rattle.book.specs.Steps.{Answer, Outcome, Answers, Refuses, step, kept_of}
use Rattle.commands.specs.Operations.{Operation}
use Rattle.book.specs.Books.{Book}
use Rattle.book.specs.Folds.{Fate, Done, Wanting, Lost, TellsOutcome, under_fate, step_under_fate, steps_under_fates}
use Rattle.book.specs.Shows.{Provider, index_of}
use Rattle.book.specs.Turns.{Declines, Run, Shows, Turn}
use Rattle.book.proofs.Stepping.{due_steps, refused_due}

-- what a step leaves with a reply, under some fate
record IsFated (book : Book) (what : Option Record) (stepped : Outcome × Book) (said : Reply) (after : Book) : Type 0 where
  pub fate : Fate
  pub leaves : (under_fate fate book what stepped).1 ≡ after
  pub tells : TellsOutcome (under_fate fate book what stepped).0 said

-- what a step that answers gives is done, whether or not there is a record to keep
is-done : (book after : Book) (answer : Answer) (what : Option Record) → under_fate Done book what (Answers answer, after) ≡ (Answers answer, after)
is-done book after answer None = refl
is-done book after answer (Some kept) = refl

module _ (provider : Provider) where
  tells-shown : (after : Book) (answer : Answer) (said : Reply) → Shows provider after answer said → TellsOutcome (Answers answer) said
  tells-shown after answer (reply.Promised promised) shows = subst (λ (a : Answer). TellsOutcome (Answers a) (reply.Promised promised)) (sym shows.3) tt
  tells-shown after answer (reply.Found text) shows = subst (λ (a : Answer). TellsOutcome (Answers a) (reply.Found text)) (sym shows.4) tt
  tells-shown after answer (reply.Told told) shows = subst (λ (a : Answer). TellsOutcome (Answers a) (reply.Told told)) (sym shows.1) tt
  tells-shown after answer (reply.Last root) shows = subst (λ (a : Answer). TellsOutcome (Answers a) (reply.Last root)) (sym shows.1) tt
  tells-shown after answer (reply.Refused why) shows = absurd shows

  answered-fated : (book after : Book) (asked : Operation) (said : Reply) (answer : Answer) → step (index_of provider) book asked ≡ (Answers answer, after) → Shows provider after answer said
      → IsFated book (kept_of book asked) (step (index_of provider) book asked) said after
  answered-fated book after asked said answer is shows =
      let e : under_fate Done book (kept_of book asked) (step (index_of provider) book asked) ≡ (Answers answer, after) = ap (under_fate Done book (kept_of book asked)) is ∙ is-done book after answer (kept_of book asked) in
      record {
        fate = Done;
        leaves = ap (λ (x : Outcome × Book). x.1) e;
        tells = subst (λ (outcome : Outcome). TellsOutcome outcome said) (sym (ap (λ (x : Outcome × Book). x.0) e)) (tells-shown after answer said shows);
      }

  refused-book : (book : Book) (asked : Operation) (why : Refusal) → (step (index_of provider) book asked).0 ≡ Refuses why → (step (index_of provider) book asked).1 ≡ book
  refused-book book asked why is = ap (λ (x : Outcome × Book). x.1) (due_steps (index_of provider) book asked why (refused_due (index_of provider) book asked why is))

  module _ {K : Type 0} (kept failed : K → Record → K → Type 0) where
    declined-fated : (book : Book) (before later : K) (what : Option Record) (outcome : Outcome) (next : Book) (why : Refusal) → ((due : Refusal) → outcome ≡ Refuses due → next ≡ book)
        → Declines provider kept failed outcome what before why later → IsFated book what (outcome, next) (reply.Refused why) book
    declined-fated book before later None (Refuses due) next why same declines = record { fate = Done; leaves = same due refl; tells = declines.0 }
    declined-fated book before later (Some lost) (Refuses due) next why same declines = record { fate = Done; leaves = same due refl; tells = declines.0 }
    declined-fated book before later None (Answers answer) next why same declines = absurd declines
    declined-fated book before later (Some lost) (Answers answer) next why same (inl wants) = record { fate = Wanting; leaves = refl; tells = wants.0 }
    declined-fated book before later (Some lost) (Answers answer) next why same (inr fails) = record { fate = Lost; leaves = refl; tells = fails.0 }

    turn-fated : (book after : Book) (before later : K) (asked : Operation) (said : Reply) → Turn provider kept failed book before asked said after later
        → IsFated book (kept_of book asked) (step (index_of provider) book asked) said after
    turn-fated book after before later asked (reply.Refused why) turn =
        subst (IsFated book (kept_of book asked) (step (index_of provider) book asked) (reply.Refused why)) (sym turn.0)
        (declined-fated book before later (kept_of book asked) (step (index_of provider) book asked).0 (step (index_of provider) book asked).1 why (refused-book book asked) turn.1)
    turn-fated book after before later asked (reply.Promised promised) turn = answered-fated book after asked (reply.Promised promised) turn.0 turn.1 turn.3
    turn-fated book after before later asked (reply.Found text) turn = answered-fated book after asked (reply.Found text) turn.0 turn.1 turn.3
    turn-fated book after before later asked (reply.Told told) turn = answered-fated book after asked (reply.Told told) turn.0 turn.1 turn.3
    turn-fated book after before later asked (reply.Last root) turn = answered-fated book after asked (reply.Last root) turn.0 turn.1 turn.3

    -- fates under which the fold ends in this book, with outcomes that these replies tell
    pub record AreFates (book : Book) (commands : List Operation) (replies : List Reply) (after : Book) : Type 0 where
      pub fates : List Fate
      pub long : length fates ≡ length commands
      pub ends : (steps_under_fates (index_of provider) book commands fates).1 ≡ after
      pub told : AllZip TellsOutcome (steps_under_fates (index_of provider) book commands fates).0 replies

    pub run-folded : (commands : List Operation) (replies : List Reply) (book after : Book) (before later : K) → Run provider kept failed book before commands replies after later → AreFates book commands replies after
    run-folded [] [] book after before later run = record { fates = []; long = refl; ends = sym run.0; told = tt }
    run-folded [] (said ∷ replies) book after before later run = absurd run
    run-folded (asked ∷ commands) [] book after before later run = absurd run
    run-folded (asked ∷ commands) (said ∷ replies) book after before later run =
        joined (turn-fated book run.0 before run.1 asked said run.2) (run-folded commands replies run.0 after run.1 later run.3)
      where
        joined : {middle : Book} → IsFated book (kept_of book asked) (step (index_of provider) book asked) said middle → AreFates middle commands replies after → AreFates book (asked ∷ commands) (said ∷ replies) after
        joined turn more =
            let m : AreFates (step_under_fate (index_of provider) turn.fate book asked).1 commands replies after = subst (λ (b : Book). AreFates b commands replies after) (sym turn.leaves) more in
            record { fates = turn.fate ∷ m.fates; long = ap (λ (n : ℕ). suc n) m.long; ends = m.ends; told = (turn.tells, m.told) }
