use Rattle.std.proofs.Common.{refl, rules}
use Rattle.std.specs.Prelude.{Contains}
use Rattle.memory.proofs.Joined.{none-contained, push-once, puts-contained}
use Rattle.memory.proofs.putting.put_evidence.Goals as goal

pub returns-then-has_line-clause-puts : goal.returns-then-has_line-clause-puts
returns-then-has_line-clause-puts c =
    let there : Contains c.args.evidence.now.items c.args.new = search rules in
    (puts-contained c.args.new c.args.evidence.now.items there, refl)

pub returns-clause-once : goal.returns-clause-once
returns-clause-once c = λ once.
    let none : ¬ Contains c.args.evidence.now.items c.args.new = search rules in
    rw c.in_ok-push.ensures.items (push-once c.args.evidence.now.items c.args.new (none-contained c.args.evidence.now.items c.args.new none) once)
