use Rattle.book.proofs.Honesty.{honest}
use Rattle.book.proofs.SoundRuns.{sound-end}
use Rattle.book.proofs.laws.honest.Goals as goal

pub returns : goal.returns
returns g c provider key book after keeper keeper_after commands replies laws sound known are run =
    honest provider g.V.VufCheck.accepted g.S.Verifier.verified key laws g.K.Keeper.kept g.K.Keeper.failed book after keeper keeper_after commands replies sound
    (sound-end provider g.K.Keeper.kept g.K.Keeper.failed commands replies book after keeper keeper_after sound known are run) are run
