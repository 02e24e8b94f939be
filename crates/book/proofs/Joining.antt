-- Runs one after another are a run; a stream with salts in front gives them first.
use Rattle.std.proofs.Common.{◌≡◌, ℕ, List, [], ◌∷◌, ◌++◌, refl, subst}
use Rattle.rand_core.specs.Stream.{Stream, fill_bytes}
use Rattle.book.specs.declared.record.Record.{Record}
use Rattle.book.specs.declared.reply.Reply.{Reply}
use Rattle.commands.specs.Operations.{Operation}
use Rattle.book.specs.Books.{Book}
use Rattle.book.specs.Salted.{salted}
use Rattle.book.specs.Shows.{Provider}
use Rattle.book.specs.Turns.{Run}

pub first-salt : (salt : List ℕ) (more : List (List ℕ)) (salts : Stream) → fill_bytes 32 (salted (salt ∷ more) salts) ≡ (salt, salted more salts)
unfolding fill_bytes
first-salt salt more salts = refl

module _ (provider : Provider) {K : Type 0} (kept failed : K → Record → K → Type 0) where
  pub runs-join : (commands others : List Operation) (replies answers : List Reply) (book middle after : Book) (before between later : K)
      → Run provider kept failed book before commands replies middle between → Run provider kept failed middle between others answers after later
      → Run provider kept failed book before (commands ++ others) (replies ++ answers) after later
  runs-join [] others [] answers book middle after before between later one two =
      subst (λ (b : Book). Run provider kept failed b before others answers after later) one.0 (subst (λ (k : K). Run provider kept failed middle k others answers after later) one.1 two)
  runs-join [] others (said ∷ replies) answers book middle after before between later one two = absurd one
  runs-join (asked ∷ commands) others [] answers book middle after before between later one two = absurd one
  runs-join (asked ∷ commands) others (said ∷ replies) answers book middle after before between later one two =
      (one.0, one.1, one.2, runs-join commands others replies answers one.0 middle after one.1 between later one.3 two)
