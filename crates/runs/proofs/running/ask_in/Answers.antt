use Rattle.std.proofs.Common.{◌≡◌, ◌++◌, ℕ, List, None, Option, ap, subst, sym}
use Rattle.runs.specs.AskOptions.{ask_values}
use Rattle.asking.specs.Exchanges.{ExchangesFrames}
use Rattle.runs.specs.Marking.{LeavesMarked}
use Rattle.runs.specs.RunFaults.{IsRunFault}
use Rattle.runs.proofs.Faulty.{grows_on}
use Rattle.runs.proofs.Late.{fails_late, fault_late, same_limit, told_late, whole_late}
use Rattle.runs.proofs.running.ask_in.Goals as goal

pub returns-clause-runs : goal.returns-clause-runs
returns-clause-runs g c = λ new.
    told_late g.H.NodeHash.digest_of g.V.VufCheck.accepted g.S.Verifier.verified (ExchangesFrames g.T.Write.contents g.T.Read.remaining) c.args.keys.signing_key c.args.keys.token (ask_values c.args.order) (c.args.order.state ≡ None) c.args.stream.now c.ask_to_end-ended.new.stream (g.R.Read.remaining c.args.reader.now) (g.W.Write.contents c.args.writer.now) c.ask_to_end-ended.new.run.limit
    (same_limit (ask_values c.args.order) c.args.run.now.limit c.ask_to_end-ended.new.run.limit c.ask_to_end-ended.ensures.limit new.3) c.ask_to_end-ended.result c.tell_late.result (g.W.Write.contents c.ask_to_end-ended.new.writer) (g.W.Write.contents c.tell_late.new.writer)
    c.stale.result c.stale.ensures (c.ask_to_end-ended.ensures.runs new) (c.ask_to_end-ended.ensures.fails new) (λ none. let both = c.tell_late.ensures.late none in (both.0, ap g.W.Write.contents both.1)) c.tell_late.ensures.stale

pub returns-clause-fails : goal.returns-clause-fails
returns-clause-fails g c = λ new.
    fails_late g.H.NodeHash.digest_of g.V.VufCheck.accepted g.S.Verifier.verified (ExchangesFrames g.T.Write.contents g.T.Read.remaining) c.args.keys.signing_key c.args.keys.token (ask_values c.args.order) (c.args.order.state ≡ None) c.args.stream.now c.ask_to_end-ended.new.stream (g.R.Read.remaining c.args.reader.now) (g.W.Write.contents c.args.writer.now) c.ask_to_end-ended.new.run.limit
    (same_limit (ask_values c.args.order) c.args.run.now.limit c.ask_to_end-ended.new.run.limit c.ask_to_end-ended.ensures.limit new.3) c.ask_to_end-ended.result c.tell_late.result (g.W.Write.contents c.ask_to_end-ended.new.writer) (g.W.Write.contents c.tell_late.new.writer)
    c.stale.result c.stale.ensures (c.ask_to_end-ended.ensures.fails new) (λ none. let both = c.tell_late.ensures.late none in (both.0, ap g.W.Write.contents both.1)) c.tell_late.ensures.stale

pub returns-clause-grows : goal.returns-clause-grows
returns-clause-grows g c = grows_on (g.W.Write.contents c.args.writer.now) (g.W.Write.contents c.ask_to_end-ended.new.writer) (g.W.Write.contents c.tell_late.new.writer) c.ask_to_end-ended.ensures.grows c.tell_late.ensures.grows

pub returns-clause-marks : goal.returns-clause-marks
returns-clause-marks g c = λ new status is old acts was has.
    let (ends, same) = whole_late c.ask_to_end-ended.result c.tell_late.result (g.W.Write.contents c.ask_to_end-ended.new.writer) (g.W.Write.contents c.tell_late.new.writer) c.stale.result (λ none. let both = c.tell_late.ensures.late none in (both.0, ap g.W.Write.contents both.1)) c.tell_late.ensures.stale status is in
    subst (λ (out : Option (List ℕ)). LeavesMarked g.H.NodeHash.digest_of g.V.VufCheck.accepted g.S.Verifier.verified (ExchangesFrames g.T.Write.contents g.T.Read.remaining) c.args.keys.signing_key c.args.keys.token (ask_values c.args.order) (c.args.order.state ≡ None) c.args.stream.now c.ask_to_end-ended.new.stream (g.R.Read.remaining c.args.reader.now) status
    (g.W.Write.contents c.args.writer.now) out old (λ done. g.K.Keeper.has c.ask_to_end-ended.new.keeper (done ++ acts))) (sym same) (c.ask_to_end-ended.ensures.marks new status ends old acts was has)

pub returns-clause-faults : goal.returns-clause-faults
returns-clause-faults g c = λ new.
    fault_late (IsRunFault (ask_values c.args.order) (g.R.Read.remaining c.args.reader.now)) c.ask_to_end-ended.result c.tell_late.result c.tell_late.ensures.err (c.ask_to_end-ended.ensures.faults new)
