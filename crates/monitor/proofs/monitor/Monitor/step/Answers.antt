use Rattle.std.proofs.Common.{Ok, Err, subst}
use Rattle.monitor.specs.Monitors.{Monitor}
use Rattle.monitor.specs.Stepping.{Steps}
use Rattle.monitor.specs.Views.{monitor_of}
use Rattle.monitor.specs.declared.monitor_refusal.Refusal.TheVariants as refusal
use Rattle.monitor.proofs.Stepped.{step-refused, step-told, step-watching}
use Rattle.monitor.proofs.monitor.Monitor.step.Goals as goal

pub invariant_of-self : goal.invariant_of-self
invariant_of-self g c =
    step-watching g.H.NodeHash.digest_of g.V.VufCheck.accepted (monitor_of c.self.inside) c.args.bytes.now c.look_next.new.self c.self.invariant c.in-Ok.epoch c.in-Ok.found c.in-Ok.ensures.looks

pub returns-in-Ok-clause-steps : goal.returns-in-Ok-clause-steps
returns-in-Ok-clause-steps g c =
    subst (λ (m : Monitor). Steps g.H.NodeHash.digest_of g.V.VufCheck.accepted m c.args.bytes.now (Ok c.tell.result) (record (monitor_of c.self.inside) { client = c.look_next.new.self; watched = c.in-Ok.epoch })) c.self.view_is
    (step-told g.H.NodeHash.digest_of g.V.VufCheck.accepted (monitor_of c.self.inside) c.args.bytes.now c.look_next.new.self c.in-Ok.epoch c.in-Ok.found c.tell.result c.in-Ok.ensures.looks c.tell.ensures)

pub returns-in-Err-clause-steps : goal.returns-in-Err-clause-steps
returns-in-Err-clause-steps g c =
    subst (λ (m : Monitor). Steps g.H.NodeHash.digest_of g.V.VufCheck.accepted m c.args.bytes.now (Err (refusal.Client c.in-Err.refusal)) (record (monitor_of c.self.inside) { client = c.look_next.new.self })) c.self.view_is
    (step-refused g.H.NodeHash.digest_of g.V.VufCheck.accepted (monitor_of c.self.inside) c.args.bytes.now c.look_next.new.self c.in-Err.refusal c.in-Err.ensures.looks)
