use Rattle.hub.proofs.Cutting.{cuts_bring}
use Rattle.hub.proofs.SettledRuns.{runs_settled}
use Rattle.hub.proofs.laws_desk.cuts_do_not_matter.Goals as goal

pub returns-clause-bring : goal.returns-clause-bring
returns-clause-bring g c = cuts_bring

pub returns-clause-tell : goal.returns-clause-tell
returns-clause-tell g c before after left events others lines told outputs given well same alike run also are too =
    runs_settled g.H.NodeHash.digest_of g.V.Vuf.value_of g.S.Signer.signature_of g.R.Rng.stream g.K.Keeper.kept g.K.Keeper.failed
    before after left events others lines told outputs given well.sound same alike run also are too
