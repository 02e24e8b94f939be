use Rattle.std.proofs.Common.{rules}
use Rattle.memory.proofs.Left.{left_from_retain, left-once}
use Rattle.memory.proofs.leaving.drop_alarms.Goals as goal

pub returns-clause-left : goal.returns-clause-left
returns-clause-left c = left_from_retain _ _ _ (λ x b g k. search rules) _ _ c.retain.ensures.filtered

pub returns-clause-once : goal.returns-clause-once
returns-clause-once c = left-once _ _ _ (returns-clause-left c)
