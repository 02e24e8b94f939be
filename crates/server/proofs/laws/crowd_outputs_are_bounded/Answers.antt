use Rattle.hub.proofs.DeskHonest.{desk_stays_sound, lines_show_honest_run}
use Rattle.hub.specs.Desks.{DeskAnswers}
use Rattle.server.proofs.Crowds.{crowd_answered}
use Rattle.server.proofs.ReplySizes.{lines_short}
use Rattle.server.proofs.Waiting.{crowd_waits_within}
use Rattle.server.proofs.laws.crowd_outputs_are_bounded.Goals as goal

pub returns : goal.returns
returns g c before after idle acts well known leads sound =
    let answers = DeskAnswers g.H.NodeHash.digest_of g.V.Vuf.value_of g.S.Signer.signature_of g.G.Rng.stream g.K.Keeper.kept g.K.Keeper.failed in
    let told = crowd_answered answers (λ hub. hub) before acts after leads in
    let well_after = desk_stays_sound g.H.NodeHash.digest_of g.V.Vuf.value_of g.S.Signer.signature_of g.G.Rng.stream g.K.Keeper.kept g.K.Keeper.failed g.V.VufCheck.accepted g.S.Verifier.verified
    before.service told.0 after.service well known told.2
    in
    let shown = lines_show_honest_run g.H.NodeHash.digest_of g.V.Vuf.value_of g.S.Signer.signature_of g.G.Rng.stream g.K.Keeper.kept g.K.Keeper.failed g.V.VufCheck.accepted g.S.Verifier.verified
    before.service told.0 after.service well well_after told.2
    in crowd_waits_within answers before idle acts after told.0 told.1 sound (lines_short before.service.token told.0 shown.commands shown.replies shown.shown shown.read)
