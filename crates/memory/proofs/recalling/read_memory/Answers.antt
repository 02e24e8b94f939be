use Rattle.std.proofs.Common.{◌+◌, arith}
use Rattle.textio.specs.Lines.{lines_of}
use Rattle.memory.proofs.Recalled.{recalls-taken}
use Rattle.memory.proofs.recalling.read_memory.Goals as goal

pub loop-rest-preserved : goal.loop-rest-preserved
loop-rest-preserved c = (
  λ result recalls. c.loop-rest.invariant.0 result (rw c.first_line.ensures.lines
      (recalls-taken (c.loop-rest.number + 1) c.first_line.result.0.now (lines_of c.first_line.result.1.now) c.loop-rest.memory c.take_line.new.memory result c.in_ok-take_line.ensures recalls)),
  omega (arith, c.first_line.ensures.less, c.loop-rest.invariant.1),
)
