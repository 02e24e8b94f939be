use Rattle.asking.proofs.Telling.{behind_evidence}
use Rattle.asking.proofs.checking.tell_refusal.Goals as goal

pub returns-clause-told : goal.returns-clause-told
returns-clause-told c =
    behind_evidence c.args.what.now c.args.why c.number-number.result c.args.said.now c.tell_roots.new.said c.refuse.new.self c.refuse.result c.number-number.ensures
    c.in_ok-tell_roots.ensures c.refuse.ensures
