use Rattle.std.proofs.Common.{◌≡◌, Err, None}
use Rattle.std.specs.Prelude.{IfSome, Some}
use Rattle.runs.specs.AskOptions.{ask_values}
use Rattle.runs.specs.RunFaults.{AsksInput, IsFaultWith, IsFirstUnasked}
use Rattle.runs.specs.Runs.{lines_asked}
use Rattle.asking.specs.Exchanges.{ExchangesFrames}
use Rattle.asking.specs.Reports.{report_of}
use Rattle.textio.specs.declared.program_fault.ProgramFault.TheVariants.{CannotWrite}
use Rattle.runs.specs.declared.run_fault.RunFault.TheVariants.{Program}
use Rattle.runs.specs.Ending.{LoadsNone}
use Rattle.runs.specs.Lateness.{IsLimitOf}
use Rattle.runs.proofs.Ended.{part_left}
use Rattle.runs.proofs.Faulty.{saving_with}
use Rattle.runs.proofs.Left.{asked_left, failed_left, faults_left, leaves_told, loads_left}
use Rattle.runs.proofs.MarkedRuns.{leaves-marked}
use Rattle.asking.proofs.Outcomes.{ok_then}
use Rattle.runs.proofs.run.Run.ask.Goals as goal

pub returns-clause-runs : goal.returns-clause-runs
returns-clause-runs g c = asked_left _ c.ask_all-asked.result c.leave.result c.leave.ensures.ok (rw (← c.leave.ensures.said, ← c.leave.ensures.limit) at c.ask_all-asked.ensures.runs)

pub returns-clause-faults : goal.returns-clause-faults
returns-clause-faults g c =
    faults_left (IsFaultWith (¬ (c.args.self.now.state ≡ None)) (AsksInput (ask_values c.args.order).words) (λ number. IfSome (lines_asked (ask_values c.args.order).words (g.R.Read.remaining c.args.reader.now)) (λ lines. IsFirstUnasked 1 lines number)))
    c.ask_all-asked.result c.leave.result (saving_with _ _ _) c.leave.ensures.err c.ask_all-asked.ensures.faults

pub returns-clause-part : goal.returns-clause-part
returns-clause-part g c =
    let part = rw (← c.leave.ensures.said, ← c.leave.ensures.limit) at c.ask_all-asked.ensures.part in
    part_left g.H.NodeHash.digest_of g.V.VufCheck.accepted g.S.Verifier.verified (ExchangesFrames g.T.Write.contents g.T.Read.remaining) c.args.keys.now.signing_key c.args.keys.now.token (ask_values c.args.order) (c.args.self.now.state ≡ None) c.args.stream.now
    (g.R.Read.remaining c.args.reader.now) (g.W.Write.contents c.args.writer.now) (c.ask_all-asked.result ≡ Err (Program CannotWrite)) (c.leave.result ≡ Err (Program CannotWrite)) (IsLimitOf (ask_values c.args.order) c.args.self.now.limit)
    (λ after last. c.leave.new.self.limit.last ≡ Some last) (LoadsNone (c.args.self.now.state ≡ None) c.ask_all-asked.result c.args.self.now.limit c.leave.new.self.limit c.leave.new.self.said.status)
    (LoadsNone (c.args.self.now.state ≡ None) c.leave.result c.args.self.now.limit c.leave.new.self.limit c.leave.new.self.said.status) c.leave.result (g.W.Write.contents c.ask_all-asked.new.writer) c.leave.new.self.said
    (report_of c.args.self.now.said) (failed_left c.ask_all-asked.result c.leave.result c.leave.ensures.err)
    (loads_left (c.args.self.now.state ≡ None) c.ask_all-asked.result c.leave.result c.args.self.now.limit c.leave.new.self.limit c.leave.new.self.said.status c.leave.ensures.err) part

pub returns-clause-kept : goal.returns-clause-kept
returns-clause-kept g c = λ fresh old acts is has.
    leaves_told g.H.NodeHash.digest_of g.V.VufCheck.accepted g.S.Verifier.verified (lines_asked (ask_values c.args.order).words (g.R.Read.remaining c.args.reader.now)) c.args.keys.now.signing_key old (g.K.Keeper.has c.ask_all-asked.new.keeper) (g.K.Keeper.has c.leave.new.keeper) acts
    (g.W.Write.contents c.ask_all-asked.new.writer) c.ask_all-asked.new.self.state (c.ask_all-asked.ensures.kept fresh old acts is has) c.leave.ensures.hands

pub returns-clause-marks : goal.returns-clause-marks
returns-clause-marks g c =
    ok_then c.leave.result (asked_left _ c.ask_all-asked.result c.leave.result c.leave.ensures.ok (rw (← c.leave.ensures.said) at c.ask_all-asked.ensures.marks)) (λ marks fresh unlooked none old acts is has.
    leaves-marked g.H.NodeHash.digest_of g.V.VufCheck.accepted g.S.Verifier.verified (ExchangesFrames g.T.Write.contents g.T.Read.remaining) c.args.keys.now.signing_key c.args.keys.now.token (ask_values c.args.order) (c.args.self.now.state ≡ None) c.args.stream.now c.ask_all-asked.new.stream
    (g.R.Read.remaining c.args.reader.now) c.leave.new.self.said.status (g.W.Write.contents c.args.writer.now) (g.W.Write.contents c.ask_all-asked.new.writer) old (g.K.Keeper.has c.ask_all-asked.new.keeper) (g.K.Keeper.has c.leave.new.keeper) acts
    c.ask_all-asked.new.self.state (marks fresh unlooked none old acts is has) c.leave.ensures.hands)
