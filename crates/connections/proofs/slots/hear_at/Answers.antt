use Rattle.std.proofs.Common.{◌∙◌}
use Rattle.connections.specs.Fairness.{IsAttended}
use Rattle.connections.specs.Histories.{course}
use Rattle.connections.specs.Telling.{lost_by}
use Rattle.connections.proofs.Closing.{fits_here, none_fits}
use Rattle.connections.proofs.Steps.{stays_both, stays_counted, there_none}
use Rattle.connections.proofs.slots.hear_at.Goals as goal

pub returns-in-Err-clause-serves : goal.returns-in-Err-clause-serves
returns-in-Err-clause-serves g c = λ start acts known at time order ready fits.
    let a = c.in-Err.ensures c.args.round.idle start acts known (at, order ∙ c.requires.goes_on) ready.0 (fits_here c.in-Some.talk (course acts c.args.place) (rw c.in-Some.is at fits)) in
    let b = c.close-in-Err.ensures c.args.round.idle start a.0 a.2 a.3 in
    (b.0, stays_counted c.args.place 0 (lost_by c.in-Err.why) c.args.work.now.wanting c.close.new.self.wanting acts b.0 c.close.ensures.wanting (stays_both c.args.place 0 0 0 0 (lost_by c.in-Err.why) acts a.0 b.0 a.1 b.1), b.2, none_fits (course b.0 c.args.place) b.3, (there_none (course b.0 c.args.place) (IsAttended b.0 c.args.place) b.3, rw c.close.ensures.busy.0 b.4))
