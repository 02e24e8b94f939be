use Rattle.book.proofs.Joining.{runs-join}
use Rattle.book.proofs.laws.runs_join.Goals as goal

pub returns : goal.returns
returns g c provider book middle after keeper keeper_between keeper_after commands others replies answers one two =
    runs-join provider g.K.Keeper.kept g.K.Keeper.failed commands others replies answers book middle after keeper keeper_between keeper_after one two
