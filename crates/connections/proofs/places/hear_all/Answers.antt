use Rattle.std.proofs.Common.{◌≤◌, ◌+◌, ◌∙◌, refl, rules, arith}
use Rattle.connections.specs.Fitting.{AreUnread, IsKnownBusy}
use Rattle.connections.specs.Histories.{Hearing, History}
use Rattle.connections.specs.Rounds.{IsUnread}
use Rattle.connections.proofs.Touring.{Attended, Below, UnreadFrom, more_heard, toured, toured_none}
use Rattle.connections.proofs.places.hear_all.Goals as goal

pub loop-place-init : goal.loop-place-init
loop-place-init g c = (
  toured_none g.S.Sessions.opens g.S.Sessions.refuses g.S.Sessions.hears g.S.Sessions.misses g.S.Sessions.ends g.C.Connections.has Hearing c.args.round.idle c.args.round.now c.args.round.stopped 0 c.args.work.now.wanting
      (λ (before : History). AreUnread before × IsKnownBusy c.args.work.now.is_busy before) (λ (acts : History). Below Attended 0 acts × UnreadFrom 0 acts × IsKnownBusy c.args.work.now.is_busy acts) c.args.connections.now c.args.sessions.now c.args.places.now (λ acts ready. (λ place less. absurd (omega arith), λ place past. ready.0 place, ready.1)),
  omega arith,
  refl,
)

pub loop-place-preserved : goal.loop-place-preserved
loop-place-preserved g c =
    let place = c.loop-place.place in
    let so_far : c.loop-place.work.wanting ≤ c.args.work.now.wanting + c.loop-place.place = c.loop-place.invariant.1 in
    let one : c.hear_at.new.work.wanting ≤ c.loop-place.work.wanting + 1 = c.hear_at.ensures.few in (
      toured g.S.Sessions.opens g.S.Sessions.refuses g.S.Sessions.hears g.S.Sessions.misses g.S.Sessions.ends g.C.Connections.has Hearing c.args.round.idle c.args.round.now c.args.round.stopped 0 0 0 0 c.args.work.now.wanting c.loop-place.work.wanting c.hear_at.new.work.wanting place
          (λ (before : History). AreUnread before × IsKnownBusy c.args.work.now.is_busy before) (λ (before : History). IsUnread place before × IsKnownBusy c.loop-place.work.is_busy before) (λ (acts : History). Below Attended place acts × UnreadFrom place acts × IsKnownBusy c.loop-place.work.is_busy acts)
          (λ (after : History). Attended place after × IsKnownBusy c.hear_at.new.work.is_busy after) (λ (acts : History). Below Attended (place + 1) acts × UnreadFrom (place + 1) acts × IsKnownBusy c.hear_at.new.work.is_busy acts) c.args.connections.now c.loop-place.connections c.hear_at.new.connections c.args.sessions.now c.loop-place.sessions c.hear_at.new.sessions
          c.args.places.now c.loop-place.places c.index-places-place.result c.hear_at.new.slot refl (search rules) c.loop-place.auto.places c.index-places-place.is
          (λ acts before. (before.1 place (omega arith), before.2)) (more_heard place 0 c.loop-place.work.wanting c.hear_at.new.work.wanting c.loop-place.work.is_busy c.hear_at.new.work.is_busy) c.loop-place.invariant.0 c.hear_at.ensures.serves,
      omega arith,
      c.hear_at.ensures.pause ∙ c.loop-place.invariant.2,
    )
