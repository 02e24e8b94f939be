use Rattle.std.proofs.Common.{◌≡◌, ◌++◌, map}
use Rattle.hub.specs.Outputs.{pair_seen}
use Rattle.hub.proofs.outputs.Outputs.into_pairs.Given as goal

-- the pairs so far, and those to come
abbrev pub invariant-loop-session : goal.invariant-loop-session
invariant-loop-session l = map pair_seen l.pairs.items ++ l.session-iterator ≡ l.fn.self
