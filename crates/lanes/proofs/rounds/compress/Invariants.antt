use Rattle.std.proofs.Common.{ℕ, List, ◌<◌, ◌*◌}
use Rattle.sha2.specs.Sha256.{IsRoundsAt}
use Rattle.lanes.specs.Lanes.{HasWords, lane}
use Rattle.lanes.proofs.rounds.compress.Given as goal

abbrev pub invariant-schedule : goal.invariant-schedule
invariant-schedule g l = (k : ℕ) (b : List ℕ) → k < g.row.N → HasWords (lane l.fn.w k) b
    → IsRoundsAt b (lane l.hash k) (lane l.w k) (lane l.v k) (16 * l.turn)
