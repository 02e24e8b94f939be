use Rattle.asking.proofs.Telling.{tells_joined}
use Rattle.asking.proofs.checking.hear.Goals as goal

pub returns-clause-hears : goal.returns-clause-hears
returns-clause-hears g c =
    let heard = c.in_ok-hear_frame.ensures.hears in (
      heard.0,
      heard.1,
      tells_joined c.args.said.now c.new-now.result c.hear_frame.new.said c.join.new.self heard.0 c.new-now.ensures.text c.new-now.ensures.status heard.2 c.in_ok-join.ensures.tells,
    )
