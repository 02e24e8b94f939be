use Rattle.std.proofs.Common.{◌≡◌, ◌≢◌, ◌≤◌, ◌⊎◌, ◌+◌, ◌-◌, ◌∙◌, length, true, false, inl, inr, arith, rules}
use Rattle.connections.specs.Fairness.{AreUsed, IsUsed, NoneWaited}
use Rattle.connections.specs.Fitting.{AreUnread, IsKnownBusy}
use Rattle.connections.specs.Histories.{Hearing, History}
use Rattle.connections.specs.Rounds.{IsUnread}
use Rattle.connections.proofs.Touring.{more_taken, toured, unread_all}
use Rattle.connections.proofs.places.take_all.Goals as goal

pub returns-then-not-take_at-clause-tours : goal.returns-then-not-take_at-clause-tours
returns-then-not-take_at-clause-tours g c =
    let place = c.loop-place.place in
    let no : c.take_at.result ≡ false = search rules in
    toured g.S.Sessions.opens g.S.Sessions.refuses g.S.Sessions.hears g.S.Sessions.misses g.S.Sessions.ends g.C.Connections.has Hearing c.args.round.idle c.args.round.now c.args.round.stopped c.args.left c.loop-place.left c.loop-place.left 0 c.args.work.now.wanting c.loop-place.work.wanting c.take_at.new.work.wanting place
    (λ (before : History). AreUnread before × IsKnownBusy c.args.work.now.is_busy before) (λ (before : History). IsUnread place before × IsKnownBusy c.loop-place.work.is_busy before) (λ (acts : History). AreUsed place acts × AreUnread acts × IsKnownBusy c.loop-place.work.is_busy acts)
    (λ (after : History). NoneWaited after × IsUnread place after × IsKnownBusy c.take_at.new.work.is_busy after)
    (λ (after : History). ((c.loop-place.left ≡ 0) ⊎ NoneWaited after ⊎ AreUsed (length c.args.places.now) after) × AreUnread after × IsKnownBusy c.take_at.new.work.is_busy after)
    c.args.connections.now c.loop-place.connections c.take_at.new.connections c.args.sessions.now c.loop-place.sessions c.take_at.new.sessions
    c.args.places.now c.loop-place.places c.index-places-place-in-loop-place.result c.take_at.new.slot (omega arith) (search rules) c.loop-place.auto.places c.index-places-place-in-loop-place.is
    (λ acts before. (before.1 place, before.2)) (λ before after stays used none. (inr (inl none.0), unread_all place 0 c.loop-place.work.wanting c.take_at.new.work.wanting before after stays used.1 none.1, none.2)) c.loop-place.invariant.0 (rw no at c.take_at.ensures.serves)

pub loop-place-preserved : goal.loop-place-preserved
loop-place-preserved g c =
    let place = c.loop-place.place in
    let yes : c.take_at.result ≡ true = search rules in
    let some : c.loop-place.left ≢ 0 = search rules in
    let so_far : c.loop-place.work.wanting ≤ c.args.work.now.wanting + c.loop-place.place = c.loop-place.invariant.1 in
    let one : c.take_at.new.work.wanting ≤ c.loop-place.work.wanting + 1 = c.take_at.ensures.few in (
      toured g.S.Sessions.opens g.S.Sessions.refuses g.S.Sessions.hears g.S.Sessions.misses g.S.Sessions.ends g.C.Connections.has Hearing c.args.round.idle c.args.round.now c.args.round.stopped c.args.left c.loop-place.left (c.loop-place.left - 1) 1 c.args.work.now.wanting c.loop-place.work.wanting c.take_at.new.work.wanting place
          (λ (before : History). AreUnread before × IsKnownBusy c.args.work.now.is_busy before) (λ (before : History). IsUnread place before × IsKnownBusy c.loop-place.work.is_busy before) (λ (acts : History). AreUsed place acts × AreUnread acts × IsKnownBusy c.loop-place.work.is_busy acts)
          (λ (after : History). IsUsed after place × IsUnread place after × IsKnownBusy c.take_at.new.work.is_busy after) (λ (acts : History). AreUsed (place + 1) acts × AreUnread acts × IsKnownBusy c.take_at.new.work.is_busy acts)
          c.args.connections.now c.loop-place.connections c.take_at.new.connections c.args.sessions.now c.loop-place.sessions c.take_at.new.sessions
          c.args.places.now c.loop-place.places c.index-places-place-in-loop-place.result c.take_at.new.slot (omega arith) (search rules) c.loop-place.auto.places c.index-places-place-in-loop-place.is
          (λ acts before. (before.1 place, before.2)) (more_taken place 1 c.loop-place.work.wanting c.take_at.new.work.wanting c.loop-place.work.is_busy c.take_at.new.work.is_busy) c.loop-place.invariant.0 (rw yes at c.take_at.ensures.serves),
      omega arith,
      c.take_at.ensures.pause ∙ c.loop-place.invariant.2,
    )
