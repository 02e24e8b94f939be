use Rattle.std.proofs.Common.{◌≡◌, Err, None, rules}
use Rattle.textio.specs.declared.program_fault.ProgramFault.TheVariants.{OutOfMemory}
use Rattle.runs.specs.AskOptions.{ask_values}
use Rattle.asking.specs.Exchanges.{ExchangesFrames}
use Rattle.runs.specs.Runs.{lines_asked}
use Rattle.runs.proofs.Faulty.{grows_not}
use Rattle.runs.proofs.Late.{fails_unasked, leaves_unasked, memory_only, not_whole}
use Rattle.runs.proofs.running.ask_over.Goals as goal

pub returns-in_err-run-clause-fails : goal.returns-in_err-run-clause-fails
returns-in_err-run-clause-fails g c =
    let passed : c.from_residual.result ≡ Err OutOfMemory = search rules in
    fails_unasked g.H.NodeHash.digest_of g.V.VufCheck.accepted g.S.Verifier.verified (ExchangesFrames g.T.Write.contents g.T.Read.remaining) c.args.keys.signing_key c.args.keys.token (ask_values c.args.order) (c.args.order.state ≡ None) c.args.stream.now (g.R.Read.remaining c.args.reader.now) (g.W.Write.contents c.args.writer.now) c.from_residual.result
    (memory_only c.from_residual.result passed)

pub returns-in_err-run-clause-keeps : goal.returns-in_err-run-clause-keeps
returns-in_err-run-clause-keeps g c = λ old acts is has. leaves_unasked g.H.NodeHash.digest_of g.V.VufCheck.accepted g.S.Verifier.verified (lines_asked (ask_values c.args.order).words (g.R.Read.remaining c.args.reader.now)) None c.args.keys.signing_key old (g.K.Keeper.has c.args.keeper.now) acts has

pub returns-in_err-run-clause-marks : goal.returns-in_err-run-clause-marks
returns-in_err-run-clause-marks g c = λ status is.
    let passed : c.from_residual.result ≡ Err OutOfMemory = search rules in
    absurd (not_whole c.from_residual.result OutOfMemory status passed is)

pub returns-in_err-run-clause-grows : goal.returns-in_err-run-clause-grows
returns-in_err-run-clause-grows g c = grows_not (g.W.Write.contents c.args.writer.now)

pub returns-clause-runs : goal.returns-clause-runs
returns-clause-runs g c = c.ask_in.ensures.runs c.in_ok-run.ensures

pub returns-clause-fails : goal.returns-clause-fails
returns-clause-fails g c = c.ask_in.ensures.fails c.in_ok-run.ensures

pub returns-clause-keeps : goal.returns-clause-keeps
returns-clause-keeps g c = c.ask_in.ensures.keeps c.in_ok-run.ensures

pub returns-clause-faults : goal.returns-clause-faults
returns-clause-faults g c = c.ask_in.ensures.faults c.in_ok-run.ensures

pub returns-clause-marks : goal.returns-clause-marks
returns-clause-marks g c = c.ask_in.ensures.marks c.in_ok-run.ensures
