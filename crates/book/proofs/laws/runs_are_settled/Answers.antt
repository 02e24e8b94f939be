use Rattle.book.proofs.Settled.{run-settled}
use Rattle.book.proofs.laws.runs_are_settled.Goals as goal

pub returns : goal.returns
returns g c provider book after left keeper later beside behind commands replies others sound alike run also =
    run-settled provider g.K.Keeper.kept g.K.Keeper.failed g.L.Keeper.kept g.L.Keeper.failed commands replies others book after left keeper later beside behind sound.ascend alike run also
