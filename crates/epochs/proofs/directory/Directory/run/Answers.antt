use Rattle.std.proofs.Common.{◌≡◌, ◌∙◌, map, take, refl, subst, subst₂}
use Rattle.std.proofs.lemmas.List.{take_all}
use Rattle.std.proofs.lemmas.List.Elements.{All-map, All-more, All-nil}
use Rattle.commands.specs.Operations.{asked, IsCommand}
use Rattle.commands.specs.declared.command.Command.{Command}
use Rattle.book.specs.ProviderLaws.{KeepsLaws}
use Rattle.book.specs.Shows.{Provider, index_of}
use Rattle.book.specs.Sound.{IsSound}
use Rattle.book.proofs.Honesty.{honest}
use Rattle.epochs.specs.DirectoryStates.{book, provider}
use Rattle.epochs.proofs.Binding.{same_provider}
use Rattle.epochs.proofs.Running.{run_next, run_stays, so_anyway}
use Rattle.epochs.proofs.directory.Directory.run.Goals as goal

pub loop-command-init : goal.loop-command-init
loop-command-init g c = rw c.new-replies.ensures.items (((refl, refl), (refl, refl)), All-nil (λ command. IsCommand (asked command)))

pub returns-in_err-reserve-clause-err : goal.returns-in_err-reserve-clause-err
returns-in_err-reserve-clause-err g c = so_anyway c.from_residual.result (c.loop-command.replies.items, c.loop-command.command-index, c.loop-command.invariant.0.0)

pub returns-in_err-reserve-clause-keys : goal.returns-in_err-reserve-clause-keys
returns-in_err-reserve-clause-keys g c = c.loop-command.invariant.0.1

pub returns-in_err-reply-clause-err : goal.returns-in_err-reply-clause-err
returns-in_err-reply-clause-err g c =
    let stands = c.in_err-reply.ensures.err in
    so_anyway c.from_residual-in_err-reply.result (
      c.loop-command.replies.items,
      c.loop-command.command-index,
      run_stays (provider g.H.NodeHash.digest_of g.V.Vuf.value_of g.S.Signer.signature_of c.args.self.now) g.K.Keeper.kept g.K.Keeper.failed
          (map asked (take c.loop-command.command-index c.args.commands.now)) c.loop-command.replies.items (book g.R.Rng.stream c.args.self.now)
          (book g.R.Rng.stream c.loop-command.self) (book g.R.Rng.stream c.answer.new.self) c.args.keeper.now c.loop-command.keeper c.answer.new.keeper
          stands.0 stands.1 c.loop-command.invariant.0.0,
    )

pub returns-in_err-reply-clause-keys : goal.returns-in_err-reply-clause-keys
returns-in_err-reply-clause-keys g c = (c.answer.ensures.keys.0 ∙ c.loop-command.invariant.0.1.0, c.answer.ensures.keys.1 ∙ c.loop-command.invariant.0.1.1)

pub loop-command-preserved : goal.loop-command-preserved
loop-command-preserved g c = (
  run_next g.H.NodeHash.digest_of g.V.Vuf.value_of g.S.Signer.signature_of g.R.Rng.stream g.K.Keeper.kept g.K.Keeper.failed
      c.args.self.now c.loop-command.self c.answer.new.self c.args.keeper.now c.loop-command.keeper c.answer.new.keeper
      c.args.commands.now c.loop-command.command-index c.command-item.result c.loop-command.replies.items c.push_reserved.new.self.items _
      c.loop-command-test.true c.command-item.is (cc (c.push_reserved.ensures.items, c.in_ok-reserve.ensures.items)) c.loop-command.invariant.0 c.in_ok-reply.ensures.ok c.answer.ensures.keys,
  All-more (λ command. IsCommand (asked command)) c.args.commands.now c.loop-command.command-index c.command-item.result c.loop-command-test.true c.loop-command.invariant.1
      (subst (λ (command : Command). IsCommand (asked command)) c.command-item.is c.is_command.ensures),
)

pub returns-clause-ok : goal.returns-clause-ok
returns-clause-ok g c = rw (take_all _ _ c.loop-command-test.false) at c.loop-command.invariant.0.0

pub returns-clause-keys : goal.returns-clause-keys
returns-clause-keys g c = c.loop-command.invariant.0.1

pub returns-clause-honest : goal.returns-clause-honest
returns-clause-honest g c =
    honest (provider g.H.NodeHash.digest_of g.V.Vuf.value_of g.S.Signer.signature_of c.args.self.now) g.V.VufCheck.accepted g.S.Verifier.verified c.args.self.now.signing_key laws
    g.K.Keeper.kept g.K.Keeper.failed (book g.R.Rng.stream c.args.self.now) (book g.R.Rng.stream c.loop-command.self) c.args.keeper.now c.loop-command.keeper
    (map asked c.args.commands.now) c.loop-command.replies.items (rw (← c.self.view_is) c.self.invariant.0.sound) sound
    (All-map IsCommand asked c.args.commands.now (rw (take_all _ _ c.loop-command-test.false) at c.loop-command.invariant.1))
    (rw (take_all _ _ c.loop-command-test.false) at c.loop-command.invariant.0.0)
  where
    same : provider g.H.NodeHash.digest_of g.V.Vuf.value_of g.S.Signer.signature_of c.loop-command.self ≡ provider g.H.NodeHash.digest_of g.V.Vuf.value_of g.S.Signer.signature_of c.args.self.now
    same = same_provider g.H.NodeHash.digest_of g.V.Vuf.value_of g.S.Signer.signature_of c.args.self.now c.loop-command.self c.loop-command.invariant.0.1

    sound : IsSound (index_of (provider g.H.NodeHash.digest_of g.V.Vuf.value_of g.S.Signer.signature_of c.args.self.now)) (book g.R.Rng.stream c.loop-command.self)
    sound = subst (λ (p : Provider). IsSound (index_of p) (book g.R.Rng.stream c.loop-command.self)) same c.head.ensures.sound

    laws : KeepsLaws g.V.VufCheck.accepted g.S.Verifier.verified c.args.self.now.signing_key (provider g.H.NodeHash.digest_of g.V.Vuf.value_of g.S.Signer.signature_of c.args.self.now)
    laws = subst₂ (KeepsLaws g.V.VufCheck.accepted g.S.Verifier.verified) c.loop-command.invariant.0.1.1 same c.head.ensures.laws
