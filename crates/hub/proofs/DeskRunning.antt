-- The messages of sessions at a desk are a run of its directory.
use Rattle.std.proofs.Common.{◌≡◌, ℕ, List, [], ◌∷◌, Option, Some, None, Ok, Err, refl, sym, subst, ◌∙◌, inl, inr}
use Rattle.rand_core.specs.Stream.{Stream}
use Rattle.book.specs.declared.record.Record.{Record}
use Rattle.book.specs.declared.reply.Reply.{Reply}
use Rattle.commands.specs.Operations.{Operation}
use Rattle.book.specs.Shows.{Provider}
use Rattle.book.specs.Turns.{Run}
use Rattle.epochs.specs.DirectoryStates.{book, provider, HasKeysOf}
use Rattle.epochs.proofs.Binding.{same_provider}
use Rattle.wire.specs.Streams.{Message, Whole, BadFrame}
use Rattle.hub.specs.Desks.{command, TakesTurn, DeskState, DeskAnswers}
use Rattle.hub.specs.DeskRuns.{IsTurnedAway, Reaches, ShowReplies}
use Rattle.hub.specs.Exchanges.{refused_frame, Replies}
use Rattle.hub.specs.Runs.{Line, AllAnswered}

module _ {R K : Type 0} (digest_of : List ℕ → List ℕ) (value_of signature_of : List ℕ → List ℕ → List ℕ) (stream : R → Stream) (kept failed : K → Record → K → Type 0) where
  -- the commands and replies of a run that the lines show
  abbrev Shown : DeskState R K → List Line → DeskState R K → Type 0
  Shown before lines after = (commands : List Operation) × (replies : List Reply) × ShowReplies before.token lines commands replies
      × Run (provider digest_of value_of signature_of before.directory) kept failed (book stream before.directory) before.keeper commands replies (book stream after.directory) after.keeper
      × HasKeysOf before.directory after.directory × (after.token ≡ before.token)

  -- a message that does not reach the directory
  away : (before middle after : DeskState R K) (line : Line) (more : List Line) (code : ℕ) → IsTurnedAway before.token line.message code → line.reply ≡ refused_frame code → middle ≡ before
      → Shown middle more after → Shown before (line ∷ more) after
  away before middle after line more code turned says same shown =
      let (commands, replies, shows, run, keys, token) = subst (λ (d : DeskState R K). Shown d more after) same shown in
      (commands, replies, inl (code, turned, says, shows), run, keys, token)

  -- a message that does
  reached : (before middle after : DeskState R K) (line : Line) (more : List Line) (asked : Operation) → Reaches before.token line.message asked
      → TakesTurn digest_of value_of signature_of stream kept failed before (Some asked) line.reply middle → Shown middle more after → Shown before (line ∷ more) after
  reached before middle after line more asked asks (told, turn, says, keys, token) (commands, replies, shows, run, keys_after, token_after) = (
    asked ∷ commands,
    told ∷ replies,
    inr (asked, told, commands, replies, asks, says, refl, refl, subst (λ (t : List ℕ). ShowReplies t more commands replies) token shows),
    (
      book stream middle.directory,
      middle.keeper,
      turn,
      subst (λ (p : Provider). Run p kept failed (book stream middle.directory) middle.keeper commands replies (book stream after.directory) after.keeper) (same_provider digest_of value_of signature_of before.directory middle.directory keys) run,
    ),
    (keys_after.0 ∙ keys.0, keys_after.1 ∙ keys.1),
    token_after ∙ token,
  )

  -- a message more in front
  one_more : (before middle after : DeskState R K) (session : ℕ) (message : Message) (reply : List ℕ) (more : List Line)
      → Replies (DeskAnswers digest_of value_of signature_of stream kept failed) before message reply middle → Shown middle more after
      → Shown before (record { session = session; message = message; reply = reply } ∷ more) after
  one_more before middle after session BadFrame reply more (says, same) shown = away before middle after (record { session = session; message = BadFrame; reply = reply }) more _ refl says same shown
  one_more before middle after session (Whole frame) reply more (Err refusal, read, (says, same)) shown =
      away before middle after (record { session = session; message = Whole frame; reply = reply }) more _ (inl (refusal, read, refl)) says same shown
  one_more before middle after session (Whole frame) reply more (Ok requested, read, serves) shown = by_command (command before.token requested) refl serves
    where
      line : Line
      line = record { session = session; message = Whole frame; reply = reply }

      by_command : (asked : Option Operation) → command before.token requested ≡ asked → TakesTurn digest_of value_of signature_of stream kept failed before asked reply middle → Shown before (line ∷ more) after
      by_command None is (says, same) = away before middle after line more _ (inr (requested, read, is, refl)) says same shown
      by_command (Some asked) is commanded = reached before middle after line more asked (requested, read, is) commanded shown

  pub lines_show_run : (before : DeskState R K) (lines : List Line) (after : DeskState R K) → AllAnswered (DeskAnswers digest_of value_of signature_of stream kept failed) before lines after → Shown before lines after
  lines_show_run before [] after same = subst (λ (d : DeskState R K). Shown before [] d) (sym same) ([], [], (refl, refl), (refl, refl), (refl, refl), refl)
  lines_show_run before (line ∷ more) after (middle, replies, rest) = one_more before middle after line.session line.message line.reply more replies (lines_show_run middle more after rest)
