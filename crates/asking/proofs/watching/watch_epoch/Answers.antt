use Rattle.asking.proofs.Telling.{tells_joined}
use Rattle.asking.proofs.watching.watch_epoch.Goals as goal

pub returns-clause-watches : goal.returns-clause-watches
returns-clause-watches g c =
    let watched = c.in_ok-went.ensures in (
      watched.0,
      watched.1,
      tells_joined c.args.said.now c.new-now.result c.step_by.new.said c.join.new.self watched.0 c.new-now.ensures.text c.new-now.ensures.status watched.2 c.in_ok-join.ensures.tells,
    )
