use Rattle.std.proofs.Common.{◌++◌, List, ℕ, refl, sym, subst, ap, ◌∙◌}
use Rattle.wire.specs.Frames.{Frame}
use Rattle.wire.specs.Streams.{Whole, BadFrame, IsSpent}
use Rattle.hub.specs.Exchanges.{Exchange, refused_frame}
use Rattle.hub.proofs.Exchanging.{exchanged_more, has_not_failed, takes_bad_length}
use Rattle.hub.proofs.drain.drain.Goals as goal

pub loop-output-smaller : goal.loop-output-smaller
loop-output-smaller g c = let given = rw c.in-Frame.is at c.next.follows.holds-at-none in given.1

pub loop-output-preserved : goal.loop-output-preserved
loop-output-preserved g c =
    let given = rw c.in-Frame.is at c.next.follows.holds-at-none in
    let i = c.loop-output.invariant in
    let frame : Frame = record { kind = c.in-Frame.kind; body = c.in-Frame.body.now } in
    let x : Exchange = record { message = Whole frame; reply = c.answer.ensures.0 } in
    let more = exchanged_more g.S.Service.answers _ _ _ _ _ _ _ x _ _ (i.0, i.1, i.2) given.0 c.answer.ensures.1 (c.answer.ensures.2 ∙ ap (λ (t : List ℕ). t ++ x.reply) c.in_ok-reserve.ensures.items) in
    (more.0, more.1, more.2, has_not_failed _ frame _ given.0)

pub returns-in-Failed-clause-drained : goal.returns-in-Failed-clause-drained
returns-in-Failed-clause-drained g c =
    let given = rw c.in-Failed.is at c.next.follows.holds-at-none in
    let i = c.loop-output.invariant in
    let x : Exchange = record { message = BadFrame; reply = refused_frame c.number.result } in
    let more = exchanged_more g.S.Service.answers _ _ _ _ _ _ _ x _ _ (i.0, i.1, i.2) (takes_bad_length _ _ i.3 given.0 given.1) (ap refused_frame c.number.ensures, refl) (c.write_refused.ensures ∙ ap (λ (t : List ℕ). t ++ x.reply) c.in_ok-reserve.ensures.items) in
    (more.0, more.1, subst IsSpent (sym given.1) tt, more.2)
