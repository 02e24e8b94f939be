-- A run with a keeper is one with a list of what was kept.
use Rattle.std.proofs.Common.{List, [], ◌∷◌, Bool, true, false, Option, Some, None, refl, inl, inr}
use Rattle.book.specs.declared.record.Record.{Record}
use Rattle.book.specs.declared.directory_refusal.Refusal.{Refusal}
use Rattle.book.specs.declared.reply.Reply.{Reply}
use Rattle.book.specs.declared.reply.Reply.TheVariants as reply
use Rattle.commands.specs.Operations.{Operation}
use Rattle.book.specs.Books.{Book}
use Rattle.book.specs.Keeps.{fails_next, keeps_next}
use Rattle.book.specs.Shows.{Provider, index_of}
use Rattle.book.specs.Steps.{Outcome, Answers, Refuses, step, kept_of}
use Rattle.book.specs.Turns.{Declines, KeepsOne, Run, Turn}

module _ (provider : Provider) {K : Type 0} (kept failed : K → Record → K → Type 0) where
  keeps-listed : (what : Option Record) (before after : K) (rest : List Bool) → KeepsOne provider kept failed before what after → (keeps : List Bool) × KeepsOne provider keeps_next fails_next keeps what rest
  keeps-listed None before after rest is = (rest, refl)
  keeps-listed (Some what) before after rest is = (true ∷ rest, refl)

  declines-listed : (outcome : Outcome) (what : Option Record) (before : K) (why : Refusal) (after : K) (rest : List Bool) → Declines provider kept failed outcome what before why after
      → (keeps : List Bool) × Declines provider keeps_next fails_next outcome what keeps why rest
  declines-listed (Refuses due) what before why after rest is = (rest, (is.0, refl))
  declines-listed (Answers answer) None before why after rest is = absurd is
  declines-listed (Answers answer) (Some what) before why after rest (inl wants) = (rest, inl (wants.0, refl))
  declines-listed (Answers answer) (Some what) before why after rest (inr fails) = (false ∷ rest, inr (fails.0, refl))

  turn-listed : (book after : Book) (before later : K) (asked : Operation) (said : Reply) (rest : List Bool) → Turn provider kept failed book before asked said after later
      → (keeps : List Bool) × Turn provider keeps_next fails_next book keeps asked said after rest
  turn-listed book after before later asked (reply.Refused why) rest turn =
      let d = declines-listed (step (index_of provider) book asked).0 (kept_of book asked) before why later rest turn.1 in (d.0, (turn.0, d.1))
  turn-listed book after before later asked (reply.Promised promised) rest turn =
      let k = keeps-listed (kept_of book asked) before later rest turn.2 in (k.0, (turn.0, turn.1, k.1, turn.3))
  turn-listed book after before later asked (reply.Found text) rest turn =
      let k = keeps-listed (kept_of book asked) before later rest turn.2 in (k.0, (turn.0, turn.1, k.1, turn.3))
  turn-listed book after before later asked (reply.Told told) rest turn =
      let k = keeps-listed (kept_of book asked) before later rest turn.2 in (k.0, (turn.0, turn.1, k.1, turn.3))
  turn-listed book after before later asked (reply.Last root) rest turn =
      let k = keeps-listed (kept_of book asked) before later rest turn.2 in (k.0, (turn.0, turn.1, k.1, turn.3))

  pub run-listed : (commands : List Operation) (replies : List Reply) (book after : Book) (before later : K) → Run provider kept failed book before commands replies after later
      → (keeps : List Bool) × Run provider keeps_next fails_next book keeps commands replies after []
  run-listed [] [] book after before later run = ([], (run.0, refl))
  run-listed [] (said ∷ replies) book after before later run = absurd run
  run-listed (asked ∷ commands) [] book after before later run = absurd run
  run-listed (asked ∷ commands) (said ∷ replies) book after before later run =
      let more = run-listed commands replies run.0 after run.1 later run.3 in
      let turn = turn-listed book run.0 before run.1 asked said more.0 run.2 in
      (turn.0, (run.0, more.0, turn.1, more.1))
