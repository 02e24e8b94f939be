use Rattle.runs.specs.Saves.{IsAsked, IsAskedChange, IsDropped, IsOwnPromise}
use Rattle.runs.specs.StateRuns.{RunOrder}
use Rattle.runs.proofs.MarkedRuns.{watched-over-runs}
use Rattle.runs.proofs.StateRuns.{alarms-over-runs, awaited-over-runs, evidence-over-runs, finals-over-runs, marks-over-runs, own-over-runs, roots-over-runs, spelled-over-runs, told-over-runs}
use Rattle.runs.proofs.laws.stored_marks_are_told.Goals as goal

pub returns-clause-loads : goal.returns-clause-loads
returns-clause-loads g c = λ key. spelled-over-runs g.H.NodeHash.digest_of g.V.VufCheck.accepted (λ (order : RunOrder). IsAsked order.lines) (λ (order : RunOrder). IsOwnPromise g.S.Verifier.verified key order.lines) (λ (order : RunOrder). IsAskedChange order.lines)
    (λ (order : RunOrder). IsDropped order.settled)

pub returns-clause-told : goal.returns-clause-told
returns-clause-told g c = λ key. told-over-runs g.H.NodeHash.digest_of g.V.VufCheck.accepted (λ (order : RunOrder). IsAsked order.lines) (λ (order : RunOrder). IsOwnPromise g.S.Verifier.verified key order.lines) (λ (order : RunOrder). IsAskedChange order.lines)
    (λ (order : RunOrder). IsDropped order.settled)

pub returns-clause-stay : goal.returns-clause-stay
returns-clause-stay g c = λ key. marks-over-runs g.H.NodeHash.digest_of g.V.VufCheck.accepted (λ (order : RunOrder). IsAsked order.lines) (λ (order : RunOrder). IsOwnPromise g.S.Verifier.verified key order.lines) (λ (order : RunOrder). IsAskedChange order.lines)
    (λ (order : RunOrder). IsDropped order.settled)

pub returns-clause-evidence : goal.returns-clause-evidence
returns-clause-evidence g c = λ key. evidence-over-runs g.H.NodeHash.digest_of g.V.VufCheck.accepted (λ (order : RunOrder). IsAsked order.lines) (λ (order : RunOrder). IsOwnPromise g.S.Verifier.verified key order.lines) (λ (order : RunOrder). IsAskedChange order.lines)
    (λ (order : RunOrder). IsDropped order.settled)

pub returns-clause-finals : goal.returns-clause-finals
returns-clause-finals g c = λ key. finals-over-runs g.H.NodeHash.digest_of g.V.VufCheck.accepted (λ (order : RunOrder). IsAsked order.lines) (λ (order : RunOrder). IsOwnPromise g.S.Verifier.verified key order.lines) (λ (order : RunOrder). IsAskedChange order.lines)
    (λ (order : RunOrder). IsDropped order.settled)

pub returns-clause-alarms : goal.returns-clause-alarms
returns-clause-alarms g c = λ key. alarms-over-runs g.H.NodeHash.digest_of g.V.VufCheck.accepted (λ (order : RunOrder). IsAsked order.lines) (λ (order : RunOrder). IsOwnPromise g.S.Verifier.verified key order.lines) (λ (order : RunOrder). IsAskedChange order.lines)
    (λ (order : RunOrder). IsDropped order.settled)

pub returns-clause-awaits : goal.returns-clause-awaits
returns-clause-awaits g c = λ key. awaited-over-runs g.H.NodeHash.digest_of g.V.VufCheck.accepted (λ (order : RunOrder). IsAsked order.lines) (λ (order : RunOrder). IsOwnPromise g.S.Verifier.verified key order.lines) (λ (order : RunOrder). IsAskedChange order.lines)
    (λ (order : RunOrder). IsDropped order.settled)

pub returns-clause-own : goal.returns-clause-own
returns-clause-own g c = λ key. own-over-runs g.H.NodeHash.digest_of g.V.VufCheck.accepted (λ (order : RunOrder). IsAsked order.lines) (λ (order : RunOrder). IsOwnPromise g.S.Verifier.verified key order.lines) (λ (order : RunOrder). IsAskedChange order.lines)
    (λ (order : RunOrder). IsDropped order.settled)

pub returns-clause-grow : goal.returns-clause-grow
returns-clause-grow g c = λ key. roots-over-runs g.H.NodeHash.digest_of g.V.VufCheck.accepted (λ (order : RunOrder). IsAsked order.lines) (λ (order : RunOrder). IsOwnPromise g.S.Verifier.verified key order.lines) (λ (order : RunOrder). IsAskedChange order.lines)
    (λ (order : RunOrder). IsDropped order.settled)

pub returns-clause-watched : goal.returns-clause-watched
returns-clause-watched g c = λ key. watched-over-runs g.H.NodeHash.digest_of g.V.VufCheck.accepted (λ (order : RunOrder). IsAsked order.lines) (λ (order : RunOrder). IsOwnPromise g.S.Verifier.verified key order.lines) (λ (order : RunOrder). IsAskedChange order.lines)
    (λ (order : RunOrder). IsDropped order.settled)
