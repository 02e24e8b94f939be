use Rattle.std.proofs.Common.{◌≡◌, ℕ, length, subst, arith, ◌+◌, refl, rules}
use Rattle.connections.specs.Fairness.{AreServed, IsServed}
use Rattle.connections.specs.Fitting.{IsKnownBusy, KnowsPause, KnowsPauseAt}
use Rattle.connections.specs.Histories.{Telling, History}
use Rattle.connections.proofs.Touring.{Below, Served, all_there, more_told, toured, toured_so}
use Rattle.connections.proofs.places.tell_all.Goals as goal

pub loop-place-preserved : goal.loop-place-preserved
loop-place-preserved g c =
    let place = c.loop-place.place in
    toured g.S.Sessions.opens g.S.Sessions.refuses g.S.Sessions.hears g.S.Sessions.misses g.S.Sessions.ends g.C.Connections.has (Telling c.args.round.is_synced) c.args.round.idle c.args.round.now c.args.round.stopped 0 0 0 0 c.args.work.now.wanting c.loop-place.work.wanting c.tell_at.new.work.wanting place
    (IsKnownBusy c.args.work.now.is_busy) (IsKnownBusy c.loop-place.work.is_busy) (λ (acts : History). Below (Served c.args.round.idle) place acts × KnowsPause c.args.round.idle place c.args.work.now.pause c.loop-place.work.is_busy c.loop-place.work.pause acts)
    (λ (after : History). Served c.args.round.idle place after × KnowsPauseAt c.args.round.idle place c.loop-place.work.is_busy c.loop-place.work.pause c.tell_at.new.work.is_busy c.tell_at.new.work.pause after)
    (λ (acts : History). Below (Served c.args.round.idle) (place + 1) acts × KnowsPause c.args.round.idle (place + 1) c.args.work.now.pause c.tell_at.new.work.is_busy c.tell_at.new.work.pause acts) c.args.connections.now c.loop-place.connections c.tell_at.new.connections c.args.sessions.now c.loop-place.sessions c.tell_at.new.sessions
    c.args.places.now c.loop-place.places c.index-places-place.result c.tell_at.new.slot refl (search rules) c.loop-place.auto.places c.index-places-place.is
    (λ acts before. before.1.0) (more_told c.args.round.idle place 0 c.loop-place.work.wanting c.tell_at.new.work.wanting c.args.work.now.pause c.loop-place.work.pause c.tell_at.new.work.pause c.loop-place.work.is_busy c.tell_at.new.work.is_busy) c.loop-place.invariant c.tell_at.ensures

pub returns : goal.returns
returns g c =
    let idle = c.args.round.idle in
    let end : c.loop-place.place ≡ length c.args.places.now = search rules in
    let size : length c.loop-place.places ≡ length c.args.places.now = c.loop-place.auto.places in
    toured_so g.S.Sessions.opens g.S.Sessions.refuses g.S.Sessions.hears g.S.Sessions.misses g.S.Sessions.ends g.C.Connections.has (Telling c.args.round.is_synced) idle c.args.round.now c.args.round.stopped 0 0 c.args.work.now.wanting c.loop-place.work.wanting
    (IsKnownBusy c.args.work.now.is_busy) (λ (acts : History). Below (Served idle) c.loop-place.place acts × KnowsPause idle c.loop-place.place c.args.work.now.pause c.loop-place.work.is_busy c.loop-place.work.pause acts)
    (λ (acts : History). AreServed idle acts × KnowsPause idle (length c.args.places.now) c.args.work.now.pause c.loop-place.work.is_busy c.loop-place.work.pause acts)
    c.args.connections.now c.loop-place.connections c.args.sessions.now c.loop-place.sessions c.args.places.now c.loop-place.places
    (λ acts fit told. (
      all_there c.loop-place.places acts (IsServed idle acts) fit (λ place less. told.0 place (omega arith)),
      subst (λ (n : ℕ). KnowsPause idle n c.args.work.now.pause c.loop-place.work.is_busy c.loop-place.work.pause acts) end told.1,
    ))
    c.loop-place.invariant
