-- What each accepted command leaves true holds after a run.
use Rattle.std.proofs.Common.{◌≡◌, List, [], ◌∷◌, None, Contains, sym, subst}
use Rattle.book.specs.declared.record.Record.{Record}
use Rattle.book.specs.declared.reply.Reply.{Reply}
use Rattle.book.specs.declared.reply.Reply.TheVariants as reply
use Rattle.book.specs.Steps.{Answer, refusal}
use Rattle.commands.specs.Operations.{Operation}
use Rattle.book.specs.Books.{Book}
use Rattle.book.specs.Shows.{Provider, index_of}
use Rattle.book.specs.Turns.{Run, Turn}
use Rattle.book.proofs.Members.{first-there, later-there}
use Rattle.book.proofs.Stepping.{Does, stepped}

module _ (provider : Provider) {K : Type 0} (kept failed : K → Record → K → Type 0) (Holds : Book → Type 0) where
  -- an accepted command leaves it true
  abbrev pub Leaves : Operation → Type 0
  Leaves asked = (book after : Book) (answer : Answer) → Holds book → refusal (index_of provider) book asked ≡ None → Does book asked answer after → Holds after

  carried-turn : (book after : Book) (before later : K) (asked : Operation) (said : Reply) → Leaves asked → Holds book → Turn provider kept failed book before asked said after later → Holds after
  carried-turn book after before later asked (reply.Refused why) leaves holds turn = subst Holds (sym turn.0) holds
  carried-turn book after before later asked (reply.Promised promised) leaves holds turn = let s = stepped (index_of provider) book asked turn.0 after turn.1 in leaves book after turn.0 holds s.none s.does
  carried-turn book after before later asked (reply.Found text) leaves holds turn = let s = stepped (index_of provider) book asked turn.0 after turn.1 in leaves book after turn.0 holds s.none s.does
  carried-turn book after before later asked (reply.Told told) leaves holds turn = let s = stepped (index_of provider) book asked turn.0 after turn.1 in leaves book after turn.0 holds s.none s.does
  carried-turn book after before later asked (reply.Last root) leaves holds turn = let s = stepped (index_of provider) book asked turn.0 after turn.1 in leaves book after turn.0 holds s.none s.does

  pub carried : (commands : List Operation) (replies : List Reply) (book after : Book) (before later : K) → ((asked : Operation) → Contains commands asked → Leaves asked) → Holds book
      → Run provider kept failed book before commands replies after later → Holds after
  carried [] [] book after before later leave holds run = subst Holds (sym run.0) holds
  carried [] (said ∷ replies) book after before later leave holds run = absurd run
  carried (asked ∷ commands) [] book after before later leave holds run = absurd run
  carried (asked ∷ commands) (said ∷ replies) book after before later leave holds run =
      carried commands replies run.0 after run.1 later (λ other there. leave other (later-there asked commands other there))
      (carried-turn book run.0 before run.1 asked said (leave asked (first-there asked commands)) holds run.2) run.3
