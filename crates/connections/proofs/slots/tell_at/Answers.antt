use Rattle.connections.specs.Fairness.{IsServed}
use Rattle.std.proofs.Common.{rules, ◌∙◌}
use Rattle.connections.specs.Histories.{course}
use Rattle.connections.specs.Telling.{lost_by}
use Rattle.connections.proofs.Closing.{fits_here, here_fits, none_fits}
use Rattle.connections.proofs.Hearing.{leads_adds, stays_adds}
use Rattle.connections.proofs.Steps.{stays_both, stays_counted, there_here, there_none}
use Rattle.connections.proofs.Touring.{pause_busy, pause_told}
use Rattle.connections.proofs.slots.tell_at.Goals as goal

pub returns-in-Err : goal.returns-in-Err
returns-in-Err g c = λ start acts known at time order busy fits.
    let a = c.in-Err.ensures.happens acts (known.0, known.2) at time order (fits_here c.in-Some.talk (course acts c.args.place) (rw c.in-Some.is at fits)) in
    let leads = leads_adds g.S.Sessions.opens g.S.Sessions.refuses g.S.Sessions.hears g.S.Sessions.misses g.S.Sessions.ends start acts a.0 c.args.sessions.now c.args.place a.1 known.1 in
    let b = c.close.ensures c.args.round.idle start a.0 (a.2.0, leads, a.2.1) a.3 in
    (b.0, stays_counted c.args.place 0 (lost_by c.in-Err.why) c.args.work.now.wanting _ acts b.0 (search rules) (stays_both c.args.place 0 0 0 0 (lost_by c.in-Err.why) acts a.0 b.0 (stays_adds c.args.place 0 acts a.0 a.1) b.1), b.2, none_fits (course b.0 c.args.place) b.3, (there_none (course b.0 c.args.place) (IsServed c.args.round.idle b.0 c.args.place) b.3, pause_busy c.args.round.idle c.args.place c.args.work.now.pause _ c.args.work.now.is_busy b.0 b.4))

pub returns-in-Ok : goal.returns-in-Ok
returns-in-Ok g c = λ start acts known at time order busy fits.
    let a = c.in-Ok.ensures.happens acts (known.0, known.2) at time order (fits_here c.in-Some.talk (course acts c.args.place) (rw c.in-Some.is at fits)) in
    let leads = leads_adds g.S.Sessions.opens g.S.Sessions.refuses g.S.Sessions.hears g.S.Sessions.misses g.S.Sessions.ends start acts a.0 c.args.sessions.now c.args.place a.1 known.1 in
    let stays = stays_adds c.args.place 0 acts a.0 a.1 in (
      a.0,
      stays_counted c.args.place 0 0 c.args.work.now.wanting _ acts a.0 (search rules) stays,
      (a.2.0, leads, a.2.1),
      here_fits c.tell.new.talk (course a.0 c.args.place) a.3,
      (
        there_here (course a.0 c.args.place) (IsServed c.args.round.idle a.0 c.args.place) a.4.0,
        pause_told c.args.round.idle c.args.place c.args.round.now c.args.round.stopped c.args.work.now.pause c.tell.new.work.pause c.args.work.now.is_busy c.tell.new.work.is_busy a.0 c.tell.new.talk
            (stays.same_clock ∙ time) (stays.same_stop ∙ order) a.3 (a.4.1 busy) c.in-Ok.ensures.busy c.in-Ok.ensures.pause,
      ),
    )
