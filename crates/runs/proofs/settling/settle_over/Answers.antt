use Rattle.std.proofs.Common.{◌≡◌, ℕ, ◌<◌, ◌≤◌, Err, subst}
use Rattle.std.specs.Prelude.{IfErr, IfOk, OnErr}
use Rattle.asking.specs.declared.said.TheConstants.{CAUGHT}
use Rattle.runs.proofs.Settled.{settles_fault, settles_part, settles_so}
use Rattle.runs.proofs.settling.settle_over.Goals as goal

pub returns-clause-settles : goal.returns-clause-settles
returns-clause-settles g c =
    let ends = subst (λ (n : ℕ). IfOk c.end_settled.result (λ given. (given ≡ n) × OnErr c.settle_in-settled.result (CAUGHT ≤ n))) c.status.ensures c.end_settled.ensures.ok in
    settles_so c.args.name.now c.settle_in-settled.new.run.said.status (g.W.Write.contents c.args.writer.now) (g.W.Write.contents c.settle_in-settled.new.writer) c.new-run.result.said c.new-run.ensures.said
    c.settle_in-settled.result c.end_settled.result c.settle_in-settled.ensures.settles c.settle_in-settled.ensures.part ends

pub returns-clause-part : goal.returns-clause-part
returns-clause-part g c =
    let ends = subst (λ (n : ℕ). IfErr c.end_settled.result (λ fault. (c.settle_in-settled.result ≡ Err fault) × (n < CAUGHT))) c.status.ensures c.end_settled.ensures.err in
    settles_part c.args.name.now c.settle_in-settled.new.run.said.status (g.W.Write.contents c.args.writer.now) (g.W.Write.contents c.settle_in-settled.new.writer) c.new-run.result.said c.new-run.ensures.said
    c.settle_in-settled.result c.end_settled.result c.settle_in-settled.ensures.part ends

pub returns-clause-err : goal.returns-clause-err
returns-clause-err g c = settles_fault c.settle_in-settled.result c.end_settled.result c.status.result c.settle_in-settled.ensures.err c.end_settled.ensures.err

pub returns-clause-keeps : goal.returns-clause-keeps
returns-clause-keeps g c = λ lines old acts is has. c.settle_in-settled.ensures.kept c.new-run.ensures.fresh lines old acts is has
