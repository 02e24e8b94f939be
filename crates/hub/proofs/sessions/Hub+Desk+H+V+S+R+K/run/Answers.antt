use Rattle.hub.proofs.DeskHonest.{lines_show_honest_run}
use Rattle.hub.proofs.Outputting.{if_ok}
use Rattle.hub.proofs.Stopping.{if_err}
use Rattle.hub.proofs.sessions.Hub+Desk+H+V+S+R+K.run.Goals as goal

pub returns-clause-ok : goal.returns-clause-ok
returns-clause-ok g c =
    if_ok c.run_any-outputs.result _ _ c.run_any-outputs.ensures.ok
    (λ outputs (lines, runs, are). (
      lines,
      runs,
      are,
      lines_show_honest_run g.H.NodeHash.digest_of g.V.Vuf.value_of g.S.Signer.signature_of g.R.Rng.stream g.K.Keeper.kept g.K.Keeper.failed g.V.VufCheck.accepted g.S.Verifier.verified
          c.args.self.now.service lines c.run_any-outputs.new.self.service c.head.ensures.well c.head-2.ensures.well runs.answered,
    ))

pub returns-clause-begun : goal.returns-clause-begun
returns-clause-begun g c =
    if_err c.run_any-outputs.result _ _ c.run_any-outputs.ensures.begun
    (λ (lines, first). (
      lines,
      first,
      lines_show_honest_run g.H.NodeHash.digest_of g.V.Vuf.value_of g.S.Signer.signature_of g.R.Rng.stream g.K.Keeper.kept g.K.Keeper.failed g.V.VufCheck.accepted g.S.Verifier.verified
          c.args.self.now.service lines c.run_any-outputs.new.self.service c.head.ensures.well c.head-2.ensures.well first.2,
    ))
