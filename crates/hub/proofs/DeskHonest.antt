-- What the users of a whole list of messages see at the desk of an honest provider.
use Rattle.std.proofs.Common.{◌≡◌, ℕ, List, [], ◌∷◌, Bool, true, false, cond, Option, Some, None, All, sym, subst, inl, inr, ◌⊎◌, arith}
use Rattle.std.proofs.lemmas.List.Elements.{All-cons, All-nil}
use Rattle.std.specs.Str.{bytes_eq}
use Rattle.rand_core.specs.Stream.{Stream}
use Rattle.book.specs.declared.record.Record.{Record}
use Rattle.book.specs.declared.reply.Reply.{Reply}
use Rattle.commands.specs.Operations.{Operation, Question, Query, Edit, Put, Turn, Promise, Lookup, History, Head, IsCommand, MayRead}
use Rattle.book.specs.ProviderLaws.{KeepsLaws}
use Rattle.book.specs.Salts.{GivesSalts}
use Rattle.book.specs.Shows.{Provider, index_of}
use Rattle.book.specs.Sound.{IsSound}
use Rattle.book.proofs.Honesty.{honest}
use Rattle.book.proofs.SoundRuns.{run-sound}
use Rattle.epochs.specs.DirectoryStates.{book, provider}
use Rattle.epochs.proofs.Binding.{same_provider}
use Rattle.wire.specs.Requests as request
use Rattle.wire.specs.Streams.{Message, Whole, BadFrame}
use Rattle.hub.specs.Desks.{command, DeskState, DeskAnswers}
use Rattle.hub.specs.DeskRuns.{IsSoundDesk, Reaches, ShowHonestRun, ShowReplies}
use Rattle.hub.specs.Runs.{Line, AllAnswered}
use Rattle.hub.proofs.DeskRunning.{lines_show_run}
use Rattle.hub.proofs.Readable.{lines_read, run_for}

-- a request that is a command holds names, keys and epochs within their limits
question_is : (question : Question) → request.IsAsked (request.Query question) → MayRead question
question_is (Promise name) of_name = of_name.2
question_is (Lookup name epoch) (of_epoch, of_name) = of_name.2
question_is (History from count) are = tt
question_is Head are = tt

request_is : (token : List ℕ) (requested : request.RequestContent) (asked : Operation) → request.IsAsked requested → command token requested ≡ Some asked → IsCommand asked
request_is token (request.Query question) asked are e = subst IsCommand (let same : Query question ≡ asked = cc in same) (question_is question are)
request_is token (request.Put verb name (key, None)) asked (of_name, of_key) e = subst IsCommand (let same : Edit (Put verb name (key, None)) ≡ asked = cc in same) (of_name.2, of_key.2)
request_is token (request.Put verb name (key, Some policy)) asked (of_policy, (of_name, of_key)) e = subst IsCommand (let same : Edit (Put verb name (key, Some policy)) ≡ asked = cc in same) (of_name.2, of_key.2)
request_is token (request.Turn given epoch nonce) asked are e = by_token (bytes_eq given token) e
  where
    fine : (nonce : Option (List ℕ)) → request.IsAsked (request.Turn given epoch nonce) → IsCommand (Edit (Turn epoch nonce))
    fine None (of_token, of_epoch) = (omega (arith, of_epoch), tt)
    fine (Some nonce) (of_token, (of_epoch, of_nonce)) = (omega (arith, of_epoch), of_nonce)

    by_token : (b : Bool) → cond b (Some (Edit (Turn epoch nonce))) None ≡ Some asked → IsCommand asked
    by_token true same = subst IsCommand (let is : Edit (Turn epoch nonce) ≡ asked = cc in is) (fine nonce are)
    by_token false same = absurd cc

reached_is : (token : List ℕ) (message : Message) (asked : Operation) → Reaches token message asked → IsCommand asked
reached_is token (Whole frame) asked (requested, read, is) = request_is token requested asked read.1.1 is
reached_is token BadFrame asked reaches = absurd reaches

commands_are : (token : List ℕ) (lines : List Line) (commands : List Operation) (replies : List Reply) → ShowReplies token lines commands replies → All IsCommand commands
commands_are token [] commands replies (none, said) = subst (All IsCommand) (sym none) (All-nil IsCommand)
commands_are token (line ∷ more) commands replies (inl (code, turned, says, shows)) = commands_are token more commands replies shows
commands_are token (line ∷ more) commands replies (inr (asked, told, later, others, reaches, says, is, are, shows)) =
    subst (All IsCommand) (sym is) (All-cons IsCommand asked later (reached_is token line.message asked reaches) (commands_are token more later others shows))

module _ {R K : Type 0} (digest_of : List ℕ → List ℕ) (value_of signature_of : List ℕ → List ℕ → List ℕ) (stream : R → Stream) (kept failed : K → Record → K → Type 0)
    (accepted verified : List ℕ → List ℕ → List ℕ → Type 0) where
  -- the desk after is sound: it is known, or each salt to come has its size
  pub desk_stays_sound : (before : DeskState R K) (lines : List Line) (after : DeskState R K)
      → IsSoundDesk digest_of value_of signature_of stream accepted verified before
      → GivesSalts (stream before.directory.salts) ⊎ IsSoundDesk digest_of value_of signature_of stream accepted verified after
      → AllAnswered (DeskAnswers digest_of value_of signature_of stream kept failed) before lines after
      → IsSoundDesk digest_of value_of signature_of stream accepted verified after
  desk_stays_sound before lines after well (inr known) answered = known
  desk_stays_sound before lines after well (inl salts) answered =
      let (commands, replies, shown, run, keys, token) = lines_show_run digest_of value_of signature_of stream kept failed before lines after answered in
      let by : Provider = provider digest_of value_of signature_of before.directory in
      let same : by ≡ provider digest_of value_of signature_of after.directory = sym (same_provider digest_of value_of signature_of before.directory after.directory keys) in
      let are : All IsCommand commands = commands_are before.token lines commands replies shown in
      let stays = run-sound by kept failed commands replies (book stream before.directory) (book stream after.directory) before.keeper after.keeper well.sound salts are run in
      record {
        sound = subst (λ (p : Provider). IsSound (index_of p) (book stream after.directory)) same stays.sound;
        laws = subst (λ (p : Provider). KeepsLaws accepted verified after.directory.signing_key p) same (subst (λ (key : List ℕ). KeepsLaws accepted verified key by) (sym keys.1) well.laws);
      }

  pub lines_show_honest_run : (before : DeskState R K) (lines : List Line) (after : DeskState R K)
      → IsSoundDesk digest_of value_of signature_of stream accepted verified before → IsSoundDesk digest_of value_of signature_of stream accepted verified after
      → AllAnswered (DeskAnswers digest_of value_of signature_of stream kept failed) before lines after
      → ShowHonestRun digest_of value_of signature_of stream kept failed accepted verified before lines after
  lines_show_honest_run before lines after well well_after answered =
      let (commands, replies, shown, run, keys, token) = lines_show_run digest_of value_of signature_of stream kept failed before lines after answered in
      let by : Provider = provider digest_of value_of signature_of before.directory in
      let sound_after : IsSound (index_of by) (book stream after.directory) =
      subst (λ (p : Provider). IsSound (index_of p) (book stream after.directory)) (same_provider digest_of value_of signature_of before.directory after.directory keys) well_after.sound
      in
      let are : All IsCommand commands = commands_are before.token lines commands replies shown in
      let seen = honest by accepted verified before.directory.signing_key well.laws kept failed (book stream before.directory) (book stream after.directory) before.keeper after.keeper commands replies well.sound sound_after are run in
      record {
        commands = commands;
        replies = replies;
        shown = shown;
        run = run;
        read = lines_read by accepted verified before.directory.signing_key (book stream before.directory) (book stream after.directory) commands replies seen before.token lines commands replies shown
            (run_for by kept failed commands replies (book stream before.directory) (book stream after.directory) before.keeper after.keeper run) (λ asked told said. said);
        honest = seen;
        keys = keys;
        token = token;
      }
