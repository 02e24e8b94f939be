use Rattle.std.proofs.Common.{◌≡◌, ◌∷◌, true, false, None, rules, ◌∙◌}
use Rattle.connections.specs.Histories.{NoneWaits, course}
use Rattle.connections.proofs.Closing.{fits_none, here_fits, none_fits, opened, refused}
use Rattle.connections.proofs.Steps.{stays_waits}
use Rattle.connections.proofs.slots.take_at.Goals as goal

pub returns-then-not-take-clause-serves : goal.returns-then-not-take-clause-serves
returns-then-not-take-clause-serves g c = λ start acts known at time order ready fits.
    let no : c.take.result ≡ false = search rules in
    (NoneWaits ∷ acts, stays_waits c.args.place c.args.work.now.wanting acts, (c.take.ensures.no no acts known.0, known.1, ((at, order ∙ c.requires.goes_on), known.2)), fits, (tt, ready.0, ready.1))

pub returns-in-Ok-clause-serves : goal.returns-in-Ok-clause-serves
returns-in-Ok-clause-serves g c = λ start acts known at time order ready fits.
    let yes : c.take.result ≡ true = search rules in
    let free : course acts c.args.place ≡ None = fits_none (course acts c.args.place) (rw c.requires.free at fits) in
    let o = opened g.S.Sessions.opens g.S.Sessions.refuses g.S.Sessions.hears g.S.Sessions.misses g.S.Sessions.ends g.C.Connections.has c.args.round.idle start acts c.args.place c.args.connections.now c.take.new.self
    c.args.sessions.now known (at, order ∙ c.requires.goes_on) free ready.0 g.met.C.Connections.passes (c.take.ensures.yes yes acts) c.args.work.now.wanting c.open.new.self c.in-Ok.ensures.ok in
    (o.0, o.1, o.2, here_fits c.new.result (course o.0 c.args.place) (rw (c.new.ensures.empty.0, c.new.ensures.empty.1, c.new.ensures.fresh.0, c.new.ensures.fresh.1) o.3), (o.4, o.5, o.6))

pub returns-in-Err-clause-serves : goal.returns-in-Err-clause-serves
returns-in-Err-clause-serves g c = λ start acts known at time order ready fits.
    let yes : c.take.result ≡ true = search rules in
    let free : course acts c.args.place ≡ None = fits_none (course acts c.args.place) (rw c.requires.free at fits) in
    let r = refused g.S.Sessions.opens g.S.Sessions.refuses g.S.Sessions.hears g.S.Sessions.misses g.S.Sessions.ends g.C.Connections.has c.args.round.idle start acts c.args.place c.args.connections.now c.take.new.self
    c.args.sessions.now known (at, order ∙ c.requires.goes_on) free ready.0 g.met.C.Connections.passes (c.take.ensures.yes yes acts) c.in-Err.fault c.args.work.now.wanting _ (rw c.ending_of-ending.ensures at c.close.ensures.wanting) c.in-Err.ensures.err.1 c.open.new.self c.in-Err.ensures.err.0 c.close-in-Err.new.self
    (rw c.ending_of-ending.ensures at c.close-in-Err.ensures) in
    (r.0, r.1, r.2, rw c.requires.free (none_fits (course r.0 c.args.place) r.3), (r.4, r.5, rw c.close.ensures.busy.0 r.6))
