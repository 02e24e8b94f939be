use Rattle.hub.proofs.DeskHonest.{desk_stays_sound, lines_show_honest_run}
use Rattle.hub.specs.Desks.{DeskAnswers}
use Rattle.server.proofs.Joined.{all_answered}
use Rattle.server.specs.Serving.{all_lines}
use Rattle.server.proofs.laws.sessions_show_one_run.Goals as goal

pub returns : goal.returns
returns g c before after served well known all =
    let answered = all_answered (DeskAnswers g.H.NodeHash.digest_of g.V.Vuf.value_of g.S.Signer.signature_of g.G.Rng.stream g.K.Keeper.kept g.K.Keeper.failed) before served after all in
    let well_after = desk_stays_sound g.H.NodeHash.digest_of g.V.Vuf.value_of g.S.Signer.signature_of g.G.Rng.stream g.K.Keeper.kept g.K.Keeper.failed g.V.VufCheck.accepted g.S.Verifier.verified
    before (all_lines served) after well known answered
    in lines_show_honest_run g.H.NodeHash.digest_of g.V.Vuf.value_of g.S.Signer.signature_of g.G.Rng.stream g.K.Keeper.kept g.K.Keeper.failed g.V.VufCheck.accepted g.S.Verifier.verified
    before (all_lines served) after well well_after answered
