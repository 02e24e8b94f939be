use Rattle.std.proofs.Common.{◌≡◌, Err, rules}
use Rattle.runs.specs.AskOptions.{ask_values}
use Rattle.runs.proofs.Ended.{fails_over_socket, over_socket, unwritten_fails}
use Rattle.runs.proofs.Faulty.{grows_not}
use Rattle.runs.proofs.running.ask_connected.Goals as goal

pub returns-clause-runs : goal.returns-clause-runs
returns-clause-runs g c = λ are.
    rw c.status.ensures (over_socket c.args.order c.args.keys.signing_key c.args.keys.token _ _ (g.R.Read.remaining c.args.reader.now) (g.W.Write.contents c.args.writer.now) (g.W.Write.contents c.ask_in.new.writer)
    c.in_ok-ended.ended are (c.in_ok-ended.ensures.runs c.in_ok-run.ensures))

pub returns-in_err-keeper-clause-fails : goal.returns-in_err-keeper-clause-fails
returns-in_err-keeper-clause-fails g c = λ are. unwritten_fails _ (ask_values c.args.order) (g.R.Read.remaining c.args.reader.now) (g.W.Write.contents c.args.writer.now) _

pub returns-in_err-run-clause-fails : goal.returns-in_err-run-clause-fails
returns-in_err-run-clause-fails g c = λ are. unwritten_fails _ (ask_values c.args.order) (g.R.Read.remaining c.args.reader.now) (g.W.Write.contents c.args.writer.now) _

pub returns-in_err-keeper-clause-grows : goal.returns-in_err-keeper-clause-grows
returns-in_err-keeper-clause-grows g c = grows_not (g.W.Write.contents c.args.writer.now)

pub returns-in_err-run-clause-grows : goal.returns-in_err-run-clause-grows
returns-in_err-run-clause-grows g c = grows_not (g.W.Write.contents c.args.writer.now)

pub returns-in_err-ended-clause-fails : goal.returns-in_err-ended-clause-fails
returns-in_err-ended-clause-fails g c = λ are.
    let passed : c.from_residual-in_err-ended.result ≡ Err c.in_err-ended.field-0.0 = search rules in
    rw passed (fails_over_socket c.args.order c.args.keys.signing_key c.args.keys.token _ (g.R.Read.remaining c.args.reader.now) c.in_err-ended.field-0.0 (g.W.Write.contents c.args.writer.now) (g.W.Write.contents c.ask_in.new.writer)
    are (c.in_err-ended.ensures.fails c.in_ok-run.ensures))
