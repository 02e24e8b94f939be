use Rattle.std.proofs.Common.{◌≡◌, length, take, ◌*◌}
use Rattle.sha2.specs.Sha256.{digest_bytes}
use Rattle.lanes.specs.Lanes.{lane}
use Rattle.lanes.proofs.state.digest_of_lane.Given as goal

abbrev pub invariant-words : goal.invariant-words
invariant-words g l = (length l.digest ≡ 32) × (take (4 * l.i) l.digest ≡ digest_bytes (lane l.hash l.k) l.i)
