use Rattle.hub.specs.Desks.{DeskAnswers}
use Rattle.hub.proofs.DeskHonest.{lines_show_honest_run}
use Rattle.hub.specs.Runs.{lines}
use Rattle.server.specs.Serving.{AllReplied, RepliedHonestly}
use Rattle.server.proofs.Conversing.{serves_also}
use Rattle.server.proofs.serving.serve_on.Goals as goal

pub returns-clause-serves : goal.returns-clause-serves
returns-clause-serves g c =
    serves_also (AllReplied (DeskAnswers g.H.NodeHash.digest_of g.V.Vuf.value_of g.S.Signer.signature_of g.G.Rng.stream g.K.Keeper.kept g.K.Keeper.failed) c.args.session)
    (RepliedHonestly g.H.NodeHash.digest_of g.V.Vuf.value_of g.S.Signer.signature_of g.G.Rng.stream g.K.Keeper.kept g.K.Keeper.failed g.V.VufCheck.accepted g.S.Verifier.verified c.args.session)
    c.args.hub.now.service c.serve_any-outcome.new.hub.service
    (λ xs replied. (
      replied,
      lines_show_honest_run g.H.NodeHash.digest_of g.V.Vuf.value_of g.S.Signer.signature_of g.G.Rng.stream g.K.Keeper.kept g.K.Keeper.failed g.V.VufCheck.accepted g.S.Verifier.verified
          c.args.hub.now.service (lines c.args.session xs) c.serve_any-outcome.new.hub.service c.head.ensures.well c.head-2.ensures.well replied,
    ))
    _ _ c.serve_any-outcome.result _ _ c.serve_any-outcome.ensures.serves
