use Rattle.hub.proofs.DeskHonest.{desk_stays_sound, lines_show_honest_run}
use Rattle.hub.proofs.laws_desk.replies_are_honest.Goals as goal

pub returns : goal.returns
returns g c before after lines well known answered =
    lines_show_honest_run g.H.NodeHash.digest_of g.V.Vuf.value_of g.S.Signer.signature_of g.R.Rng.stream g.K.Keeper.kept g.K.Keeper.failed g.V.VufCheck.accepted g.S.Verifier.verified before lines after well
    (desk_stays_sound g.H.NodeHash.digest_of g.V.Vuf.value_of g.S.Signer.signature_of g.R.Rng.stream g.K.Keeper.kept g.K.Keeper.failed g.V.VufCheck.accepted g.S.Verifier.verified before lines after well known answered)
    answered
