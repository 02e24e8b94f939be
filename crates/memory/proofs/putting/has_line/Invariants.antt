use Rattle.std.proofs.Common.{◌<◌, ◌≢◌, ℕ, get_or}
use Rattle.memory.proofs.putting.has_line.Given as goal

-- none so far is the line
abbrev pub invariant-loop-kept : goal.invariant-loop-kept
invariant-loop-kept l = (k : ℕ) → k < l.kept-index → get_or l.evidence k l.line ≢ l.line
