use Rattle.runs.proofs.AskedOwn.{leaves-own}
use Rattle.runs.proofs.state.State.finish.Goals as goal

pub returns-in_err-write-clause-own : goal.returns-in_err-write-clause-own
returns-in_err-write-clause-own g c = leaves-own c.deref.result.now c.args.self.now.memory c.leave.new.self c.leave.ensures

pub returns-then-eq-clause-own : goal.returns-then-eq-clause-own
returns-then-eq-clause-own g c = leaves-own c.deref.result.now c.args.self.now.memory c.leave.new.self c.leave.ensures

pub returns-clause-own : goal.returns-clause-own
returns-clause-own g c = leaves-own c.deref.result.now c.args.self.now.memory c.leave.new.self c.leave.ensures
