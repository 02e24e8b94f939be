use Rattle.std.proofs.Common.{◌∙◌}
use Rattle.runs.proofs.Ended.{err_so}
use Rattle.runs.proofs.Settled.{wrote_all, wrote_behind}
use Rattle.runs.proofs.settling.settle_in.Goals as goal

pub returns-clause-settles : goal.returns-clause-settles
returns-clause-settles g c = λ empty.
    let (known, count, text, status) = c.in_ok-settled.ensures.settles empty in
    wrote_all c.args.name.now c.settle_alarms-settled.new.self.said.text.items c.write-written.new.self.said.status (g.W.Write.contents c.args.writer.now) (g.W.Write.contents c.write-written.new.writer)
    (known, count, text, c.write-written.ensures.status ∙ status) c.in_ok-written.ensures.writes.0

pub returns-in_err-settled-clause-part : goal.returns-in_err-settled-clause-part
returns-in_err-settled-clause-part g c =
    err_so _ (wrote_behind c.args.name.now c.settle_alarms-settled.new.self.said c.write-written.new.self.said.status (g.W.Write.contents c.args.writer.now) (g.W.Write.contents c.write-written.new.writer) c.args.run.now.said
    c.settle_alarms-settled.ensures.part c.write-written.ensures.status c.write-written.ensures.some)

pub returns-in_err-written-clause-part : goal.returns-in_err-written-clause-part
returns-in_err-written-clause-part g c =
    err_so _ (wrote_behind c.args.name.now c.settle_alarms-settled.new.self.said c.write-written.new.self.said.status (g.W.Write.contents c.args.writer.now) (g.W.Write.contents c.write-written.new.writer) c.args.run.now.said
    c.settle_alarms-settled.ensures.part c.write-written.ensures.status c.write-written.ensures.some)
