use Rattle.std.proofs.Common.{◌∙◌, subst}
use Rattle.wire.specs.FrameViews.{frame_seen}
use Rattle.wire.specs.Requests.{RequestContent}
use Rattle.asking.specs.Exchanges.{ExchangesFrames}
use Rattle.asking.proofs.answering.ask_for.Goals as goal

pub returns-in-Some-clause-gives : goal.returns-in-Some-clause-gives
returns-in-Some-clause-gives g c =
    let frame = frame_seen c.in_ok-frame_in.field-0 in
    let gives = rw c.in-Some.is at c.in_ok-body.ensures.gives in
    let sent = c.in_ok-reply.ensures.sent frame (rw c.deref.ensures.value at c.in_ok-frame_in.ensures.ok) in (
      frame,
      subst (λ (asked : RequestContent). ExchangesFrames g.T.Write.contents g.T.Read.remaining c.args.stream.now asked frame c.exchange.new.stream) c.request.ensures sent,
      (gives.0, c.in_ok-from_slice-in-Some.ensures.items ∙ gives.1, gives.2),
    )

pub returns-clause-gives : goal.returns-clause-gives
returns-clause-gives g c =
    let frame = frame_seen c.in_ok-frame_in.field-0 in
    let gives = rw c.in-None.is at c.in_ok-body.ensures.gives in
    let sent = c.in_ok-reply.ensures.sent frame (rw c.deref.ensures.value at c.in_ok-frame_in.ensures.ok) in (
      frame,
      subst (λ (asked : RequestContent). ExchangesFrames g.T.Write.contents g.T.Read.remaining c.args.stream.now asked frame c.exchange.new.stream) c.request.ensures sent,
      gives,
    )
