use Rattle.std.proofs.Common.{ap, subst, ◌∙◌, Err, Result}
use Rattle.monitor.specs.Stepping.{Steps}
use Rattle.monitor.specs.declared.monitor_refusal.Refusal.{Refusal}
use Rattle.monitor.specs.declared.monitor_refusal.Refusal.TheVariants as monitor
use Rattle.monitor.specs.declared.step.Step.{Step}
use Rattle.play.proofs.Refused.{steps-well}
use Rattle.play.proofs.engine.watching.watch_epoch.Goals as goal

pub tell_refusal-requires : goal.tell_refusal-requires
tell_refusal-requires g c =
    let (root, next) = c.requires in
    let steps : Steps g.H.NodeHash.digest_of g.V.VufCheck.accepted c.args.monitor.now c.args.reply.now (Err (monitor.Client c.in-Err-Client.why)) c.step.new.self
    = subst (λ (answer : Result Step Refusal). Steps g.H.NodeHash.digest_of g.V.VufCheck.accepted c.args.monitor.now c.args.reply.now answer c.step.new.self) (c.in-Err-Client.is ∙ ap Err c.in-Err-Client.field-0-is) c.step.ensures.steps in
    steps-well g.H.NodeHash.digest_of g.V.VufCheck.accepted c.args.monitor.now c.step.new.self c.args.reply.now root next c.in-Err-Client.why steps
