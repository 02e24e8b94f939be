use Rattle.textio.specs.Output.{WritesBut}
use Rattle.textio.proofs.output.write_text.Given as goal

-- all but the rest is written
abbrev pub invariant-loop : goal.invariant-loop
invariant-loop g l = WritesBut (g.W.Write.contents l.fn.writer) (g.W.Write.contents l.writer) l.text l.rest
