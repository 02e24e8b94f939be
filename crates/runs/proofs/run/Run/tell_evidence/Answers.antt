use Rattle.asking.proofs.Recalling.{evidence_joined}
use Rattle.runs.proofs.run.Run.tell_evidence.Goals as goal

pub returns-clause-tells : goal.returns-clause-tells
returns-clause-tells c = evidence_joined c.join.result c.args.known.now c.in_ok-now.now c.args.self.now.said c.join.new.self c.in_ok-now.ensures c.join.ensures.tells
