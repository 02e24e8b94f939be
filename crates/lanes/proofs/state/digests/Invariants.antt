use Rattle.std.proofs.Common.{[]}
use Rattle.sha2.specs.Sha256.{digest_bytes}
use Rattle.lanes.specs.Lanes.{lane}
use Rattle.lanes.proofs.Places.{IsWritten}
use Rattle.lanes.proofs.state.digests.Given as goal

abbrev pub invariant-lanes : goal.invariant-lanes
invariant-lanes g l = IsWritten (λ k. digest_bytes (lane l.hash k) 8) [] g.row.N l.k l.digests
