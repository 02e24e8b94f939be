use Rattle.std.proofs.Common.{ℕ, Global, Vec}
use Rattle.wire.specs.Requests.{request_seen}
use Rattle.asking.proofs.Whole.{exchanged}
use Rattle.asking.proofs.exchange.exchange.Goals as goal

pub returns-clause-sent : goal.returns-clause-sent
returns-clause-sent g c =
    exchanged g.T.Write.contents g.T.Read.remaining (λ (v : Vec ℕ Global). v.items) c.args.stream.now c.send.new.writer c.read_reply.new.reader (request_seen c.args.request.now) c.read_reply.result c.in_ok-send.ensures.ok
    c.read_reply.ensures.read c.read_reply.ensures.whole
