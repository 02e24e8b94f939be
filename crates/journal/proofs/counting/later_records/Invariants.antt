use Rattle.journal.proofs.Counted.{Counting}
use Rattle.journal.proofs.counting.later_records.Given as goal

abbrev pub invariant-loop : goal.invariant-loop
invariant-loop l = Counting l.fn.cursor l.most l.counter l.cursor l.count
