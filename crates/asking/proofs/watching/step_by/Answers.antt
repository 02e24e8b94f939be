use Rattle.std.proofs.Common.{◌∙◌, Result, Err, ap, codes, refl, subst}
use Rattle.monitor.specs.Stepping.{Steps}
use Rattle.monitor.specs.declared.monitor_refusal.Refusal.{Refusal}
use Rattle.monitor.specs.declared.step.Step.{Step}
use Rattle.asking.specs.Refused.{client_refuses}
use Rattle.asking.proofs.watching.step_by.Goals as goal

pub returns-in_ok-refuse_proof-in-Err-Client : goal.returns-in_ok-refuse_proof-in-Err-Client
returns-in_ok-refuse_proof-in-Err-Client g c = (
  client_refuses (codes "client refuses proof") c.in-Err-Client.why,
  (
    c.in-Err-Client.why,
    c.in_ok-refuse_proof-in-Err-Client.ensures.known,
    subst (λ (answer : Result Step Refusal). Steps g.H.NodeHash.digest_of g.V.VufCheck.accepted c.args.monitor.now c.args.reply.now answer c.step.new.self) (c.in-Err-Client.is ∙ ap Err c.in-Err-Client.field-0-is) c.step.ensures.steps,
    refl,
  ),
  c.in_ok-refuse_proof-in-Err-Client.ensures.told,
)
