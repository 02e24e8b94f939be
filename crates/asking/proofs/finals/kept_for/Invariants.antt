use Rattle.std.proofs.Common.{◌<◌, ◌≢◌, ℕ, get_or}
use Rattle.memory.specs.declared.final_seen.FinalSeen.{FinalSeen}
use Rattle.asking.proofs.finals.kept_for.Given as goal

-- none so far is for the name
abbrev pub invariant-loop-kept : goal.invariant-loop-kept
invariant-loop-kept l = (k : ℕ) → k < l.kept-index → (d : FinalSeen) → (get_or l.seen k d).name ≢ l.name
