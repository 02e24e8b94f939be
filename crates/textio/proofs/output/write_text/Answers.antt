use Rattle.textio.proofs.Writing.{WritesBut-more}
use Rattle.textio.proofs.output.write_text.Goals as goal

pub loop-preserved : goal.loop-preserved
loop-preserved g c = rw c.split_at.ensures.back (WritesBut-more _ _ _ _ _ _ c.loop.invariant c.in_ok-count.ensures.ok)
