use Rattle.runs.specs.AskOptions.{ask_values}
use Rattle.runs.proofs.Settled.{settled_fails, settled_faults, settled_runs}
use Rattle.runs.proofs.running.ask_under.Goals as goal

pub returns-in-Some-clause-runs : goal.returns-in-Some-clause-runs
returns-in-Some-clause-runs g c = λ are.
    settled_runs (ask_values c.args.order) (g.R.Read.remaining c.args.reader.now) _ (rw c.in-Some.is at c.in_ok-name.ensures) (g.W.Write.contents c.args.writer.now) (g.W.Write.contents c.settle_over.new.writer) _ c.settle_over.result c.settle_over.ensures.settles

pub returns-in-Some-clause-fails : goal.returns-in-Some-clause-fails
returns-in-Some-clause-fails g c = λ are.
    settled_fails (ask_values c.args.order) (g.R.Read.remaining c.args.reader.now) _ (rw c.in-Some.is at c.in_ok-name.ensures) (g.W.Write.contents c.args.writer.now) (g.W.Write.contents c.settle_over.new.writer) _ c.settle_over.result c.settle_over.ensures.part

pub returns-in-Some-clause-faults : goal.returns-in-Some-clause-faults
returns-in-Some-clause-faults g c =
    settled_faults (ask_values c.args.order) (g.R.Read.remaining c.args.reader.now) _ (rw c.in-Some.is at c.in_ok-name.ensures) (g.W.Write.contents c.args.writer.now) (g.W.Write.contents c.settle_over.new.writer) c.settle_over.result c.settle_over.ensures.err
