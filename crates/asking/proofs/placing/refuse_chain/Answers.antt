use Rattle.std.proofs.Common.{codes, subst}
use Rattle.std.specs.Prelude.{OnOk}
use Rattle.client.specs.declared.client_refusal.Refusal.{Refusal}
use Rattle.asking.specs.Refused.{client_refuses}
use Rattle.asking.specs.Reports.{Tells}
use Rattle.asking.proofs.placing.refuse_chain.Goals as goal

pub returns : goal.returns
returns c = subst (λ (why : Refusal). OnOk c.refuse_root.result (Tells c.args.said.now (client_refuses (codes "client refuses root") why) c.refuse_root.new.said)) c.from.ensures c.refuse_root.ensures
