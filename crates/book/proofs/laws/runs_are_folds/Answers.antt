use Rattle.book.proofs.Folding.{run-folded}
use Rattle.book.proofs.laws.runs_are_folds.Goals as goal

pub returns : goal.returns
returns g c provider book after keeper keeper_after commands replies run =
    let f = run-folded provider g.K.Keeper.kept g.K.Keeper.failed commands replies book after keeper keeper_after run in (f.fates, f.long, f.ends, f.told)
