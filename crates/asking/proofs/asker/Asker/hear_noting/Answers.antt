use Rattle.wire.specs.FrameViews.{frame_seen}
use Rattle.play.specs.Scripts.{ask_seen}
use Rattle.client.specs.Clients.{Client}
use Rattle.asking.specs.Checking.{HearsFrame}
use Rattle.asking.specs.Reports.{Report}
use Rattle.asking.proofs.FinalsNoted.{heard-noted}
use Rattle.asking.proofs.Handed.{report_silent}
use Rattle.asking.proofs.asker.Asker.hear_noting.Goals as goal

pub returns-clause-hears : goal.returns-clause-hears
returns-clause-hears g c =
    let heard = c.in_ok-hear.ensures.hears in
    let noted = c.in_ok-note_heard.ensures.notes in
    let quiet = report_silent c.new-now.result c.new-now.ensures.text c.new-now.ensures.status in
    heard-noted c.join.result g.H.NodeHash.digest_of g.V.VufCheck.accepted
    (λ (told : Report) (client : Client). HearsFrame g.H.NodeHash.digest_of g.V.VufCheck.accepted g.S.Verifier.verified c.args.held c.args.self.now.client (ask_seen c.args.ask.now) (frame_seen c.args.frame.now) told client)
    (ask_seen c.args.ask.now) (frame_seen c.args.frame.now) c.new-now.result c.hear.new.said c.note_heard.new.said c.args.said.now c.join.new.self heard.0 noted.0 c.hear.new.client c.note_heard.new.self.client
    c.args.self.now.finals c.note_heard.new.self.finals quiet c.in_ok-note_heard.ensures.client heard.1 heard.2 noted.1 noted.2 c.join.ensures.tells
