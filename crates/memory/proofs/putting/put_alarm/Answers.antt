use Rattle.std.proofs.Common.{refl, rules}
use Rattle.std.specs.Prelude.{Contains}
use Rattle.memory.proofs.Joined.{none-contained, push-once, puts-contained}
use Rattle.memory.proofs.putting.put_alarm.Goals as goal

pub returns-then-contains-clause-puts : goal.returns-then-contains-clause-puts
returns-then-contains-clause-puts c =
    let there : Contains c.args.alarms.now.items c.args.new = search rules in
    (puts-contained c.args.new c.args.alarms.now.items there, refl)

pub returns-clause-once : goal.returns-clause-once
returns-clause-once c = λ once.
    let none : ¬ Contains c.args.alarms.now.items c.args.new = search rules in
    rw c.in_ok-push.ensures.items (push-once c.args.alarms.now.items c.args.new (none-contained c.args.alarms.now.items c.args.new none) once)
