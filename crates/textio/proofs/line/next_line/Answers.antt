use Rattle.std.proofs.Common.{rules}
use Rattle.textio.proofs.NextLine.{HasBegun-within, TakesLine-past, TakesLine-last}
use Rattle.textio.proofs.line.next_line.Goals as goal

pub returns-in-Past-clause-ok : goal.returns-in-Past-clause-ok
returns-in-Past-clause-ok g c = TakesLine-past _ _ _ _ _ _ c.loop.invariant (rw c.in-Past.is at c.in_ok-take_step.ensures.ok)

pub loop-preserved : goal.loop-preserved
loop-preserved g c = HasBegun-within _ _ _ _ _ _ c.loop.invariant (rw c.in-Within.is at c.in_ok-take_step.ensures.ok)

pub returns-in-End-2-clause-ok : goal.returns-in-End-2-clause-ok
returns-in-End-2-clause-ok g c = TakesLine-last _ _ _ _ _ _ c.loop.invariant (rw c.in-End-2.is at c.in_ok-take_step.ensures.ok) (search rules)
