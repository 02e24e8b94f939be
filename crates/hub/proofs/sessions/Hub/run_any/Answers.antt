use Rattle.std.proofs.Common.{[], ap, map, rules, sym, ◌∙◌}
use Rattle.std.proofs.lemmas.List.{append-nil, map-append, take_all, take_more}
use Rattle.hub.specs.Events.{event_seen}
use Rattle.hub.proofs.Outputting.{are_outputs, if_ok, outputs_begin, ran_more}
use Rattle.hub.proofs.Running.{nothing_run}
use Rattle.hub.proofs.Stopping.{any_err, begun, runs_begin, stopped, stopped_first, stopped_last}
use Rattle.hub.proofs.sessions.Hub.run_any.Goals as goal

pub returns-in_err-outputs-clause-err : goal.returns-in_err-outputs-clause-err
returns-in_err-outputs-clause-err g c = any_err c.from_residual.result _ (stopped_first g.D.Service.answers c.args.self.now _ (nothing_run g.D.Service.answers c.args.self.now).0)

pub loop-event-init : goal.loop-event-init
loop-event-init g c = ([], nothing_run g.D.Service.answers c.args.self.now, outputs_begin c.args.self.now.sessions c.in_ok-outputs.outputs (search rules))

pub loop-event-preserved : goal.loop-event-preserved
loop-event-preserved g c =
    ran_more g.D.Service.answers _ _ _ _ _ _ _ _ (ap (map event_seen) (take_more _ _ _ c.loop-event-test.true) ∙ map-append event_seen _ _) c.loop-event.invariant c.in_ok-event_into.ensures.ok

pub returns-in_err-event_into-clause-err : goal.returns-in_err-event_into-clause-err
returns-in_err-event_into-clause-err g c =
    let i = c.loop-event.invariant in
    any_err c.from_residual-in_err-event_into.result _ (stopped g.D.Service.answers event_seen c.args.self.now c.loop-event.self c.event_into.new.self c.args.events.now c.loop-event.event-index _ c.loop-event-test.true (i.0, i.1) c.in_err-event_into.ensures.err)

pub returns-in_err-event_into-clause-begun : goal.returns-in_err-event_into-clause-begun
returns-in_err-event_into-clause-begun g c =
    let i = c.loop-event.invariant in
    any_err c.from_residual-in_err-event_into.result _ (begun g.D.Service.answers event_seen c.args.self.now c.loop-event.self c.event_into.new.self c.args.events.now c.loop-event.event-index _ c.loop-event-test.true (i.0, i.1) c.in_err-event_into.ensures.err)

pub returns-clause-ok : goal.returns-clause-ok
returns-clause-ok g c =
    let i = rw (take_all _ _ c.loop-event-test.false) at c.loop-event.invariant in
    if_ok c.into_pairs.result _ _ c.into_pairs.ensures.outputs
    (λ pairs same. (i.0, i.1.0, are_outputs _ _ i.0 _ _ i.2 same c.into_pairs.ensures.ascend))

pub returns-clause-err : goal.returns-clause-err
returns-clause-err g c =
    let i = rw (take_all _ _ c.loop-event-test.false) at c.loop-event.invariant in
    any_err c.into_pairs.result _ (stopped_last g.D.Service.answers c.args.self.now c.loop-event.self _ i.0 i.1.0)

pub returns-clause-begun : goal.returns-clause-begun
returns-clause-begun g c =
    let i = rw (take_all _ _ c.loop-event-test.false) at c.loop-event.invariant in
    any_err c.into_pairs.result _ (runs_begin g.D.Service.answers c.args.self.now c.loop-event.self _ [] _ i.0 (sym (append-nil _)) i.1.0)
