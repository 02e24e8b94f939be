use Rattle.std.proofs.Common.{◌≡◌, subst}
use Rattle.commands.specs.Operations.{Head}
use Rattle.wire.specs.Frames.{Frame}
use Rattle.wire.specs.FrameViews.{frame_seen}
use Rattle.wire.specs.Requests.{Query}
use Rattle.asking.specs.Checking.{HearsFrame}
use Rattle.asking.specs.Exchanges.{HoldsFrame}
use Rattle.asking.specs.Reports.{report_of, told_after, unless_fine, Report}
use Rattle.asking.proofs.Asked.{same_frame}
use Rattle.asking.proofs.asker.Asker.hear_head.Goals as goal

pub returns-clause-finds : goal.returns-clause-finds
returns-clause-finds g c =
    let seen : HoldsFrame c.args.reply.now.bytes.items (frame_seen c.in_ok-frame.frame) = rw c.deref.ensures.value at c.in_ok-frame.ensures.ok in
    λ frame holds. subst (λ (f : Frame). (told : Report) × HearsFrame g.H.NodeHash.digest_of g.V.VufCheck.accepted g.S.Verifier.verified c.args.reply.now.held c.args.self.now.client (Query Head) f told c.find_head.new.self.client
    × (report_of c.find_head.new.said ≡ told_after (report_of c.args.said.now) (unless_fine told)))
    (same_frame c.args.reply.now.bytes.items (frame_seen c.in_ok-frame.frame) frame seen holds) c.in_ok-find_head.ensures.finds
