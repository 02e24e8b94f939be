use Rattle.book.proofs.Keeping.{run-listed}
use Rattle.book.proofs.laws.keeps_are_listed.Goals as goal

pub returns : goal.returns
returns g c provider book after keeper keeper_after commands replies run =
    run-listed provider g.K.Keeper.kept g.K.Keeper.failed commands replies book after keeper keeper_after run
