use Rattle.std.proofs.Common.{codes, inr, refl}
use Rattle.wire.specs.FrameViews.{frame_seen}
use Rattle.wire.specs.Refusals.{read_refusal_number}
use Rattle.play.specs.Scripts.{ask_seen}
use Rattle.asking.specs.Checking.{HearsFrame}
use Rattle.asking.specs.Refused.{refuses_text}
use Rattle.asking.specs.Reports.{refused}
use Rattle.asking.proofs.Telling.{tells_so}
use Rattle.asking.proofs.checking.hear_frame.Goals as goal

pub returns-in-Err-clause-hears : goal.returns-in-Err-clause-hears
returns-in-Err-clause-hears g c =
    tells_so c.tell_unread.result
    (λ told. HearsFrame g.H.NodeHash.digest_of g.V.VufCheck.accepted g.S.Verifier.verified c.args.held c.args.client.now (ask_seen c.args.ask.now) (frame_seen c.args.frame.now) told c.args.client.now)
    (refused (refuses_text (codes "client refuses reply") (read_refusal_number c.in-Err.why))) c.args.said.now c.args.said.now c.tell_unread.new.said refl
    (inr (c.in-Err.why, c.in-Err.ensures, refl, refl)) c.tell_unread.ensures
