use Rattle.std.proofs.Common.{◌≡◌, ◌≢◌, refl, rules}
use Rattle.std.specs.Prelude.{All, Any}
use Rattle.memory.specs.Memories.{final_name}
use Rattle.memory.specs.declared.final_seen.FinalSeen.{FinalSeen}
use Rattle.memory.proofs.Joined.{push-no_repeat, puts-former}
use Rattle.memory.proofs.putting.put_final.Goals as goal

pub returns-then-has_final-clause-puts : goal.returns-then-has_final-clause-puts
returns-then-has_final-clause-puts c =
    let there : Any (λ (kept : FinalSeen). kept.name ≡ c.args.new.name) c.args.finals.now.items = search rules in
    (puts-former final_name c.args.new c.args.finals.now.items there, refl)

pub returns-clause-once : goal.returns-clause-once
returns-clause-once c = λ once.
    let none : All (λ (kept : FinalSeen). kept.name ≢ c.args.new.name) c.args.finals.now.items = search rules in
    rw c.in_ok-push.ensures.items (push-no_repeat final_name c.args.finals.now.items c.args.new none once)
