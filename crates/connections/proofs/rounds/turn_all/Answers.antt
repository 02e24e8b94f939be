use Rattle.std.proofs.Common.{[], ◌+◌, length, false, refl, sym, ◌∙◌, rules, zero-add}
use Rattle.std.proofs.lemmas.Bool.{false≢true}
use Rattle.connections.specs.Pauses.{pause_of}
use Rattle.connections.proofs.Touring.{all_free, ended, ended_late, may_begin, telling, turned}
use Rattle.connections.proofs.Unkept.{follows}
use Rattle.connections.proofs.Wanting.{told_more}
use Rattle.connections.proofs.rounds.turn_all.Goals as goal

pub loop-round-init : goal.loop-round-init
loop-round-init g c =
    let lines = c.tell_unkept-is_told.ensures.lines c.args.limits.report 0 (g.E.Write.contents c.args.errors.now) ([], refl, refl, refl, λ none. refl) in (
      c.new-state.ensures.round.0,
      c.new-reports.ensures,
      may_begin c.args.limits.count c.new-state.result.left c.new-state.result.round.stopped c.args.places.now c.new-state.ensures.left c.new-state.ensures.round.1,
      (0, lines),
      λ has. ([], (has, refl, tt), sym c.new-state.ensures.round.1, all_free c.args.places.now c.requires, refl, lines, c.tell_unkept-is_told.ensures.told, (zero-add c.new-state.result.left ∙ c.new-state.ensures.left, tt, (telling false, λ place. tt), tt, (λ so. c.new-state.ensures.pause, λ none. absurd (false≢true (sym none))))),
    )

pub loop-round-preserved : goal.loop-round-preserved
loop-round-preserved g c =
    let more = told_more c.args.limits.report c.loop-round.reports.every c.turn-state.result.work.wanting c.loop-round.is_told c.tell_unkept-is_told-in-loop-round.result _ _ _ _ c.loop-round.invariant.1 c.tell_wanting.ensures c.tell_unkept-is_told-in-loop-round.ensures.lines c.tell.ensures.lines in (
      c.turn-state.ensures.same ∙ c.loop-round.invariant.0,
      c.tell.ensures.every ∙ c.loop-round.invariant.1,
      λ finished. search (rules, c.is_finished.ensures.1 finished),
      (c.loop-round.invariant.3.0 + c.turn-state.result.work.wanting, more c.loop-round.invariant.3.0 _ c.loop-round.invariant.3.1),
      λ has. turned g.S.Sessions.opens g.S.Sessions.refuses g.S.Sessions.hears g.S.Sessions.misses g.S.Sessions.ends g.C.Connections.has g.S.Sessions.is_unkept g.S.Sessions.any_unkept c.args.limits.report c.args.limits.idle c.loop-round.state.round.idle
          c.args.limits.count (length c.args.places.now) c.loop-round.state.left c.turn-state.result.left (pause_of c.loop-round.state.work.is_busy c.loop-round.state.work.pause) (pause_of c.turn-state.result.work.is_busy c.turn-state.result.work.pause) c.loop-round._round c.turn-state.result.work.wanting c.loop-round.state.round.stopped c.turn-state.result.round.stopped
          c.turn-state.result.round.is_synced c.loop-round.is_told c.tell_unkept-is_told-in-loop-round.result c.loop-round.connections c.turn-state.new.connections c.loop-round.sessions c.turn-state.new.sessions c.loop-round.places c.turn-state.new.places c.loop-round.invariant.0 c.loop-round.auto.places c.loop-round.invariant.2 c.args.sessions.now
          (g.E.Write.contents c.args.errors.now) (g.E.Write.contents c.loop-round.errors) (g.E.Write.contents c.tell.new.errors) (c.loop-round.invariant.4 has)
          (follows g.S.Sessions.opens g.S.Sessions.refuses g.S.Sessions.hears g.S.Sessions.misses g.S.Sessions.ends g.S.Sessions.is_unkept g.S.Sessions.any_unkept g.met.S.Sessions.opens_as g.met.S.Sessions.hears_as g.met.S.Sessions.misses_as g.met.S.Sessions.ends_as)
          more c.tell_unkept-is_told-in-loop-round.ensures.told c.turn-state.ensures.turns,
    )

pub returns-then-is_finished-clause-tells : goal.returns-then-is_finished-clause-tells
returns-then-is_finished-clause-tells g c =
    let more = told_more c.args.limits.report c.loop-round.reports.every c.turn-state.result.work.wanting c.loop-round.is_told c.tell_unkept-is_told-in-loop-round.result _ _ _ _ c.loop-round.invariant.1 c.tell_wanting.ensures c.tell_unkept-is_told-in-loop-round.ensures.lines c.tell.ensures.lines in (
      c.tell_unkept-is_told-in-loop-round.result,
      (c.loop-round.invariant.3.0 + c.turn-state.result.work.wanting, more c.loop-round.invariant.3.0 _ c.loop-round.invariant.3.1),
    )

pub returns-then-is_finished-clause-happens : goal.returns-then-is_finished-clause-happens
returns-then-is_finished-clause-happens g c = λ has.
    let more = told_more c.args.limits.report c.loop-round.reports.every c.turn-state.result.work.wanting c.loop-round.is_told c.tell_unkept-is_told-in-loop-round.result _ _ _ _ c.loop-round.invariant.1 c.tell_wanting.ensures c.tell_unkept-is_told-in-loop-round.ensures.lines c.tell.ensures.lines in
    let t = turned g.S.Sessions.opens g.S.Sessions.refuses g.S.Sessions.hears g.S.Sessions.misses g.S.Sessions.ends g.C.Connections.has g.S.Sessions.is_unkept g.S.Sessions.any_unkept c.args.limits.report c.args.limits.idle c.loop-round.state.round.idle
    c.args.limits.count (length c.args.places.now) c.loop-round.state.left c.turn-state.result.left (pause_of c.loop-round.state.work.is_busy c.loop-round.state.work.pause) (pause_of c.turn-state.result.work.is_busy c.turn-state.result.work.pause) c.loop-round._round c.turn-state.result.work.wanting c.loop-round.state.round.stopped c.turn-state.result.round.stopped
    c.turn-state.result.round.is_synced c.loop-round.is_told c.tell_unkept-is_told-in-loop-round.result c.loop-round.connections c.turn-state.new.connections c.loop-round.sessions c.turn-state.new.sessions c.loop-round.places c.turn-state.new.places c.loop-round.invariant.0 c.loop-round.auto.places c.loop-round.invariant.2 c.args.sessions.now
    (g.E.Write.contents c.args.errors.now) (g.E.Write.contents c.loop-round.errors) (g.E.Write.contents c.tell.new.errors) (c.loop-round.invariant.4 has)
    (follows g.S.Sessions.opens g.S.Sessions.refuses g.S.Sessions.hears g.S.Sessions.misses g.S.Sessions.ends g.S.Sessions.is_unkept g.S.Sessions.any_unkept g.met.S.Sessions.opens_as g.met.S.Sessions.hears_as g.met.S.Sessions.misses_as g.met.S.Sessions.ends_as)
    more c.tell_unkept-is_told-in-loop-round.ensures.told c.turn-state.ensures.turns in
    ended g.S.Sessions.opens g.S.Sessions.refuses g.S.Sessions.hears g.S.Sessions.misses g.S.Sessions.ends g.C.Connections.has g.S.Sessions.is_unkept g.S.Sessions.any_unkept c.args.limits.report c.args.limits.idle c.args.limits.count (length c.args.places.now) c.turn-state.result.left (pause_of c.turn-state.result.work.is_busy c.turn-state.result.work.pause) (c.loop-round._round + 1)
    c.turn-state.result.round.stopped c.args.sessions.now (g.E.Write.contents c.args.errors.now) (g.E.Write.contents c.tell.new.errors) c.tell_unkept-is_told-in-loop-round.result c.turn-state.new.connections c.turn-state.new.sessions c.turn-state.new.places t (c.is_finished.ensures.0 (search rules)).0 (c.is_finished.ensures.0 (search rules)).1

pub returns-clause-tells : goal.returns-clause-tells
returns-clause-tells g c = (c.loop-round.is_told, c.loop-round.invariant.3)

pub returns-clause-happens : goal.returns-clause-happens
returns-clause-happens g c = λ has.
    ended_late g.S.Sessions.opens g.S.Sessions.refuses g.S.Sessions.hears g.S.Sessions.misses g.S.Sessions.ends g.C.Connections.has g.S.Sessions.is_unkept g.S.Sessions.any_unkept c.args.limits.report c.args.limits.idle c.args.limits.count (length c.args.places.now) c.loop-round.state.left (pause_of c.loop-round.state.work.is_busy c.loop-round.state.work.pause) c.loop-round._round
    c.loop-round.state.round.stopped c.args.sessions.now (g.E.Write.contents c.args.errors.now) (g.E.Write.contents c.loop-round.errors) c.loop-round.is_told c.loop-round.connections c.loop-round.sessions c.loop-round.places (c.loop-round.invariant.4 has) (search rules)
