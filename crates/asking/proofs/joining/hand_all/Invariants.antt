use Rattle.std.proofs.Common.{drop}
use Rattle.monitor.specs.Monitors.{Monitor}
use Rattle.asking.specs.Joining.{AllHand}
use Rattle.asking.proofs.joining.hand_all.Given as goal

-- what comes of the promises from this one on comes of all of them
abbrev pub invariant-loop-signed : goal.invariant-loop-signed
invariant-loop-signed g l = (after : Monitor) → AllHand g.H.NodeHash.digest_of g.V.VufCheck.accepted g.S.Verifier.verified (drop l.signed-index l.promises) l.monitor after
    → AllHand g.H.NodeHash.digest_of g.V.VufCheck.accepted g.S.Verifier.verified l.promises l.fn.monitor after
