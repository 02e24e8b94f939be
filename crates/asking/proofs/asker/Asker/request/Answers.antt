use Rattle.std.proofs.Common.{ℕ, Global, IfOk, Vec, subst}
use Rattle.wire.specs.Frames.{Frame}
use Rattle.wire.specs.Requests.{RequestContent}
use Rattle.asking.specs.Exchanges.{ExchangesFrames, HoldsFrame}
use Rattle.asking.proofs.asker.Asker.request.Goals as goal

pub returns-clause-sent : goal.returns-clause-sent
returns-clause-sent g c =
    subst (λ (asked : RequestContent). IfOk c.exchange.result (λ (bytes : Vec ℕ Global). (frame : Frame) → HoldsFrame bytes.items frame → ExchangesFrames g.T.Write.contents g.T.Read.remaining c.args.stream.now asked frame c.exchange.new.stream))
    c.request.ensures c.exchange.ensures.sent
