use Rattle.std.proofs.Common.{◌≢◌, rules}
use Rattle.wire.specs.FrameViews.{frame_seen}
use Rattle.asking.proofs.Asked.{finds_refused}
use Rattle.asking.proofs.Handed.{report_silent}
use Rattle.asking.proofs.asker.Asker.find_head.Goals as goal

pub returns-clause-finds : goal.returns-clause-finds
returns-clause-finds g c =
    let heard = c.in_ok-hear.ensures.hears in
    let not : c.hear.new.said.status ≢ 0 = search rules in
    finds_refused g.H.NodeHash.digest_of g.V.VufCheck.accepted g.S.Verifier.verified c.join.result c.args.held c.args.self.now.client c.hear.new.client (frame_seen c.args.frame.now) heard.0 c.new-now.result
    c.hear.new.said c.args.said.now c.join.new.self (report_silent c.new-now.result c.new-now.ensures.text c.new-now.ensures.status) not heard.1 heard.2 c.join.ensures.tells
