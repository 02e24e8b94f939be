use Rattle.asking.specs.Reports.{report_of}
use Rattle.asking.proofs.Handed.{Handing}
use Rattle.asking.proofs.watching.hand_to.Given as goal

-- the monitors before this place were given it, and the others are as they were
abbrev pub invariant-loop-monitor : goal.invariant-loop-monitor
invariant-loop-monitor g l =
    Handing g.H.NodeHash.digest_of g.V.VufCheck.accepted g.S.Verifier.verified l.signed l.promise l.fn.monitors (report_of l.fn.said) l.monitor-index l.monitors (report_of l.said)
