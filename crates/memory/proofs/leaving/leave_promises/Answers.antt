use Rattle.std.proofs.Common.{rules}
use Rattle.memory.specs.Memories.{signed_of}
use Rattle.memory.proofs.Left.{left_from_retain, left-no_repeat}
use Rattle.memory.proofs.leaving.leave_promises.Goals as goal

pub returns-clause-left : goal.returns-clause-left
returns-clause-left c = left_from_retain _ _ _ (λ x b g k. search rules) _ _ c.retain.ensures.filtered

pub returns-clause-once : goal.returns-clause-once
returns-clause-once c = left-no_repeat _ signed_of _ _ (returns-clause-left c)
