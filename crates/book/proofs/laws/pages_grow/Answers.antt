use Rattle.book.proofs.Growing.{run-grows}
use Rattle.book.proofs.laws.pages_grow.Goals as goal

pub returns : goal.returns
returns g c provider book after keeper keeper_after commands replies sound run =
    let grown = run-grows provider g.K.Keeper.kept g.K.Keeper.failed commands replies book after keeper keeper_after sound.ascend run in (grown.more, grown.is, grown.ascend)
