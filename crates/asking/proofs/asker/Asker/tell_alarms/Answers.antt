use Rattle.std.proofs.Common.{refl}
use Rattle.asking.proofs.Recalling.{alarms_joined}
use Rattle.asking.proofs.asker.Asker.tell_alarms.Goals as goal

pub returns-clause-tells : goal.returns-clause-tells
returns-clause-tells g c =
    alarms_joined c.join.result c.args.name.now c.args.self.now.known c.in_ok-now.now c.in_ok-now.now c.args.said.now c.join.new.self c.in_ok-now.ensures refl c.join.ensures.tells
