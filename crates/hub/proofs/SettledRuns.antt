-- Runs that bring the same messages have the same lines, where the calls fail alike.
use Rattle.std.proofs.Common.{◌≡◌, ℕ, List, map, sym, ap, subst, ◌∙◌}
use Rattle.std.specs.List.{AllZip}
use Rattle.rand_core.specs.Stream.{Stream}
use Rattle.book.specs.declared.record.Record.{Record}
use Rattle.commands.specs.Operations.{Operation}
use Rattle.book.specs.Shows.{index_of}
use Rattle.book.specs.Sound.{IsSound}
use Rattle.book.specs.Turns.{Run}
use Rattle.book.proofs.Settled.{run-settled}
use Rattle.epochs.specs.DirectoryStates.{book, provider}
use Rattle.hub.specs.Desks.{DeskState, DeskAnswers}
use Rattle.hub.specs.DeskRuns.{RefuseAlike}
use Rattle.hub.specs.Events.{BySession, Happening, HubState}
use Rattle.hub.specs.Runs.{Line, asked_by, bytes_of, each, told_to, unanswered, AreOutputs, BringTheSame, Runs}
use Rattle.hub.proofs.Cutting.{bytes_told}
use Rattle.hub.proofs.DeskRunning.{lines_show_run}
use Rattle.hub.proofs.Settled.{fail_alike, same_commands, same_lines}

module _ {R K : Type 0} (digest_of : List ℕ → List ℕ) (value_of signature_of : List ℕ → List ℕ → List ℕ) (stream : R → Stream) (kept failed : K → Record → K → Type 0) where
  pub runs_settled : (before after left : HubState (DeskState R K)) (events others : List Happening) (lines told : List Line) (outputs given : BySession (List ℕ))
      → IsSound (index_of (provider digest_of value_of signature_of before.service.directory)) (book stream before.service.directory)
      → BringTheSame (each unanswered before.sessions) events others → AllZip RefuseAlike lines told
      → Runs (DeskAnswers digest_of value_of signature_of stream kept failed) before events lines after
      → Runs (DeskAnswers digest_of value_of signature_of stream kept failed) before others told left
      → AreOutputs (each unanswered before.sessions) events lines outputs → AreOutputs (each unanswered before.sessions) others told given
      → (lines ≡ told) × (book stream after.service.directory ≡ book stream left.service.directory)
      × ((session : ℕ) → bytes_of outputs session ≡ bytes_of given session)
  runs_settled before after left events others lines told outputs given sound bring alike run also are too =
      let (asked, replies, shows, ran, keys, token) = lines_show_run digest_of value_of signature_of stream kept failed before.service lines after.service run.answered in
      let (wanted, answers, show, goes, same_keys, same_token) = lines_show_run digest_of value_of signature_of stream kept failed before.service told left.service also.answered in
      let messages : map asked_by lines ≡ map asked_by told = run.messages ∙ bring ∙ sym also.messages in
      let same : asked ≡ wanted = same_commands before.service.token lines told asked wanted replies answers messages shows show in
      let settled =
      run-settled (provider digest_of value_of signature_of before.service.directory) kept failed kept failed asked replies answers
      (book stream before.service.directory) (book stream after.service.directory) (book stream left.service.directory) before.service.keeper after.service.keeper before.service.keeper left.service.keeper
      sound.ascend (fail_alike before.service.token lines told asked wanted replies answers messages alike shows show) ran
      (subst
      (λ (c : List Operation). Run (provider digest_of value_of signature_of before.service.directory) kept failed (book stream before.service.directory) before.service.keeper c answers (book stream left.service.directory) left.service.keeper)
      (sym same) goes)
      in
      let equal : lines ≡ told = same_lines before.service.token lines told asked wanted replies answers messages shows show settled.1 in (
        equal,
        settled.0,
        λ session.
            bytes_told (each unanswered before.sessions) events lines outputs run.messages are session
            ∙ ap (told_to session) equal
            ∙ sym (bytes_told (each unanswered before.sessions) others told given also.messages too session),
      )
