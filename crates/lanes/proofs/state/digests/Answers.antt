use Rattle.std.proofs.Common.{[], arith}
use Rattle.std.proofs.lemmas.List.{length-replicate}
use Rattle.sha2.specs.Sha256.{digest_bytes}
use Rattle.lanes.specs.Lanes.{lane}
use Rattle.lanes.proofs.Places.{written-next}
use Rattle.lanes.proofs.state.digests.Goals as goal

pub lanes-init : goal.lanes-init
lanes-init g c = (length-replicate g.row.N _, λ j low. absurd (omega arith))

pub lanes-preserved : goal.lanes-preserved
lanes-preserved g c =
    written-next (λ k. digest_bytes (lane c.args.hash.now k) 8) [] g.row.N c.lanes.k c.lanes.digests _ c.lanes-test.true c.lanes.invariant c.digest_of_lane.ensures

pub returns-clause-len : goal.returns-clause-len
returns-clause-len g c = c.lanes.invariant.0

pub returns-clause-lanes : goal.returns-clause-lanes
returns-clause-lanes g c k below = c.lanes.invariant.1 k (omega arith)
