use Rattle.std.proofs.Common.{take}
use Rattle.asking.specs.FinalBindings.{AreChanged}
use Rattle.asking.proofs.finals.changed_names.Given as goal

-- the names of the lines so far
abbrev pub invariant-loop-line : goal.invariant-loop-line
invariant-loop-line l = AreChanged (take l.line-index l.evidence) l.names.items
