use Rattle.std.proofs.Common.{◌≡◌, ◌++◌, List, Err, None, Some, ap}
use Rattle.textio.specs.declared.program_fault.ProgramFault.TheVariants.{CannotWrite}
use Rattle.runs.specs.AskOptions.{ask_values}
use Rattle.runs.specs.Ending.{IsNewFor}
use Rattle.asking.specs.Exchanges.{ExchangesFrames}
use Rattle.asking.specs.Reports.{report_of}
use Rattle.runs.specs.Saves.{Act}
use Rattle.runs.specs.declared.run_fault.RunFault.TheVariants.{Program}
use Rattle.runs.proofs.Ended.{ends_so, fails_so}
use Rattle.runs.proofs.MarkedRuns.{ends-marked}
use Rattle.runs.proofs.Faulty.{given_so, grows_on}
use Rattle.runs.proofs.Late.{parts_limited, runs_limited, state_none, state_some}
use Rattle.asking.proofs.Outcomes.{ok_then}
use Rattle.runs.proofs.running.ask_to_end.Goals as goal

pub returns : goal.returns
returns g c =
    let none : IsNewFor (ask_values c.args.order) c.args.run.now → c.args.order.state ≡ None → c.args.run.now.state ≡ None = λ new is. state_none c.args.order c.args.run.now new is in
    let some : IsNewFor (ask_values c.args.order) c.args.run.now → c.args.run.now.state ≡ None → c.args.order.state ≡ None = λ new is. state_some c.args.order c.args.run.now new is in
    let grows = grows_on (g.W.Write.contents c.args.writer.now) (g.W.Write.contents c.ask-outcome.new.writer) (g.W.Write.contents c.end.new.writer) c.ask-outcome.ensures.grows c.end.ensures.grows in
    let ends = ok_then c.ask-outcome.result c.end.ensures.ok (λ both. (both.0, ap g.W.Write.contents both.1)) in record {
      keeps = λ new old acts is has. c.ask-outcome.ensures.kept new.1 old acts is has;
      runs = λ new. ends_so g.H.NodeHash.digest_of g.V.VufCheck.accepted g.S.Verifier.verified (ExchangesFrames g.T.Write.contents g.T.Read.remaining) c.args.keys.signing_key c.args.keys.token (ask_values c.args.order)
          (c.args.run.now.state ≡ None) (c.args.order.state ≡ None) (none new) (some new) c.ask-outcome.result c.end.result c.args.stream.now c.ask-outcome.new.stream (g.R.Read.remaining c.args.reader.now)
          (g.W.Write.contents c.args.writer.now) (g.W.Write.contents c.ask-outcome.new.writer) (g.W.Write.contents c.end.new.writer) c.ask-outcome.new.self.said (report_of c.args.run.now.said) new.2
          (λ after last. c.end.new.self.limit.last ≡ Some last) c.args.run.now.limit c.end.new.self.limit
          (rw c.end.ensures.limit (runs_limited _ _ c.ask-outcome.result new.3 c.ask-outcome.ensures.runs)) (rw c.end.ensures.limit (parts_limited _ _ c.ask-outcome.result new.3 c.ask-outcome.ensures.part)) c.end.ensures.fails ends c.end.ensures.stopped;
      fails = λ new. fails_so g.H.NodeHash.digest_of g.V.VufCheck.accepted g.S.Verifier.verified (ExchangesFrames g.T.Write.contents g.T.Read.remaining) c.args.keys.signing_key c.args.keys.token (ask_values c.args.order)
          (c.args.run.now.state ≡ None) (c.args.order.state ≡ None) (none new) (some new) c.ask-outcome.result c.end.result c.args.stream.now c.ask-outcome.new.stream (g.R.Read.remaining c.args.reader.now)
          (g.W.Write.contents c.args.writer.now) (g.W.Write.contents c.ask-outcome.new.writer) (g.W.Write.contents c.end.new.writer) c.ask-outcome.new.self.said (report_of c.args.run.now.said) new.2
          (λ after last. c.end.new.self.limit.last ≡ Some last) c.args.run.now.limit c.end.new.self.limit new.4
          (rw c.end.ensures.limit (parts_limited _ _ c.ask-outcome.result new.3 c.ask-outcome.ensures.part)) c.end.ensures.gives ends c.end.ensures.failed;
      marks = λ new status is old acts was has. ends-marked g.H.NodeHash.digest_of g.V.VufCheck.accepted g.S.Verifier.verified (ExchangesFrames g.T.Write.contents g.T.Read.remaining) c.args.keys.signing_key c.args.keys.token (ask_values c.args.order)
          (c.args.run.now.state ≡ None) (c.args.order.state ≡ None) (none new) (some new) c.args.stream.now c.ask-outcome.new.stream (g.R.Read.remaining c.args.reader.now) (g.W.Write.contents c.args.writer.now) old
          (λ (done : List Act). g.K.Keeper.has c.ask-outcome.new.keeper (done ++ acts)) (c.ask-outcome.result ≡ Err (Program CannotWrite)) c.ask-outcome.result c.end.result c.ask-outcome.new.self.said (g.W.Write.contents c.ask-outcome.new.writer) (g.W.Write.contents c.end.new.writer)
          (ok_then c.ask-outcome.result c.ask-outcome.ensures.marks (λ marks. marks new.1 new.5 new.2 old acts was has)) ends c.end.ensures.stopped status is;
      faults = λ new. given_so c.end.result c.ask-outcome.result c.args.order c.args.run.now.state (g.R.Read.remaining c.args.reader.now) (none new) c.ask-outcome.ensures.faults c.end.ensures.gives;
      unread = c.ask-outcome.ensures.unread;
      grows = grows;
      limit = rw c.end.ensures.limit c.ask-outcome.ensures.limit;
    }
