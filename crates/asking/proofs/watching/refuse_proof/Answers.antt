use Rattle.std.proofs.Common.{ℕ, Global, Vec, ap, codes}
use Rattle.asking.specs.Refused.{client_refuses}
use Rattle.asking.proofs.Telling.{told_behind}
use Rattle.asking.proofs.watching.refuse_proof.Goals as goal

pub returns-clause-told : goal.returns-clause-told
returns-clause-told c = told_behind c.tell_client.result (client_refuses (codes "client refuses proof") c.args.why) c.args.said.now c.tell_client.new.said c.begin.new.self.text.items
    c.begin.new.self.status (ap (λ (v : Vec ℕ Global). v.items) c.in_ok-begin.ensures.text) c.in_ok-begin.ensures.status c.tell_client.ensures.told
