use Rattle.textio.proofs.NextLine.{HasBegun}
use Rattle.textio.proofs.line.next_line.Given as goal

abbrev pub invariant-loop : goal.invariant-loop
invariant-loop g l = HasBegun g.row.MOST (g.R.Read.remaining l.fn.reader) (g.R.Read.remaining l.reader) l.line
