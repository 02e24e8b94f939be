use Rattle.memory.specs.Memories.{signed_of}
use Rattle.memory.specs.PromiseIndex.{IsIndexed}
use Rattle.memory.proofs.Left.{left-all}
use Rattle.memory.proofs.promises.Promises.leave.Goals as goal

pub invariant_of-self : goal.invariant_of-self
invariant_of-self c = left-all _ signed_of (IsIndexed c.self.inside.index) _ _ c.leave_promises.ensures.left c.self.invariant
