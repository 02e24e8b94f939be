use Rattle.std.proofs.Common.{◌≡◌, ◌+◌, ◌∙◌, ◌++◌, ◌∷◌, [], ap, get_or, sym, take}
use Rattle.std.proofs.Transfers.{starts_with_trans}
use Rattle.std.proofs.lemmas.List.{take_more}
use Rattle.monitor.specs.Monitors.{Monitor}
use Rattle.memory.specs.Learning.{BeginsOne}
use Rattle.memory.proofs.Learned.{err_so, one_more, some_did}
use Rattle.memory.proofs.Taken.{taken_more, taken_some}
use Rattle.memory.proofs.memory.Memory.mark_begun.Goals as goal

pub returns-in_err-begin_one-clause-err : goal.returns-in_err-begin_one-clause-err
returns-in_err-begin_one-clause-err g c = err_so c.from_residual.result
    (some_did BeginsOne c.args.monitors.now c.loop-monitor.monitor-index c.args.self.now c.loop-monitor.self c.begin_one.new.self c.args.lines.now.items c.loop-monitor.lines.items
    c.loop-monitor.invariant.0 c.in_err-begin_one.ensures.err)

pub returns-in_err-begin_one-clause-some : goal.returns-in_err-begin_one-clause-some
returns-in_err-begin_one-clause-some g c = err_so c.from_residual.result
    (taken_some c.args.self.now c.loop-monitor.self c.begin_one.new.self c.args.lines.now.items c.loop-monitor.lines.items c.loop-monitor.invariant.2 c.in_err-begin_one.ensures.err)

pub loop-monitor-preserved : goal.loop-monitor-preserved
loop-monitor-preserved g c =
    let some = c.args.monitors.now in
    let place = c.loop-monitor.monitor-index in
    let monitor = c.monitor-item.result in
    let front = take place some in
    let next : take (place + 1) some ≡ front ++ get_or some place monitor ∷ [] = take_more some place monitor c.loop-monitor-test.true in
    let whole : take (place + 1) some ≡ front ++ monitor ∷ [] = next ∙ ap (λ (m : Monitor). front ++ m ∷ []) (sym c.monitor-item.is) in (
      rw whole (one_more BeginsOne front monitor c.args.self.now c.loop-monitor.self c.begin_one.new.self c.args.lines.now.items c.loop-monitor.lines.items c.begin_one.new.lines.items c.loop-monitor.invariant.0 c.in_ok-begin_one.ensures.ok),
      starts_with_trans _ _ _ c.in_ok-begin_one.ensures.grows c.loop-monitor.invariant.1,
      taken_more c.args.self.now c.loop-monitor.self c.begin_one.new.self c.args.lines.now.items c.loop-monitor.lines.items c.begin_one.new.lines.items c.loop-monitor.invariant.2 c.in_ok-begin_one.ensures.takes,
    )
