use Rattle.asking.specs.Testing.{due_told}
use Rattle.asking.proofs.Telling.{tells_joined}
use Rattle.asking.proofs.promises.tell_due.Goals as goal

pub returns-clause-tells : goal.returns-clause-tells
returns-clause-tells g c =
    let tested = c.in_ok-kept.ensures in (
      tested.0,
      tested.1,
      tested.2,
      tells_joined c.args.said.now c.new-now.result c.test_by.new.said c.join.new.self (due_told tested.0) c.new-now.ensures.text c.new-now.ensures.status tested.3 c.in_ok-join.ensures.tells,
    )
