use Rattle.std.proofs.Common.{arith}
use Rattle.proofs.proofs.Sound.{on_replies, refused_not, sound}
use Rattle.proofs.proofs.comparing.compare_replies.Goals as goal

pub returns-in-Err-clause-sound : goal.returns-in-Err-clause-sound
returns-in-Err-clause-sound g c = λ statement other index accepts_first accepts_second first_index second_index.
    refused_not g.H.NodeHash.digest_of g.V.VufCheck.accepted c.args.body.now c.args.name.now c.args.first.now c.in-Err.refusal c.in-Err.ensures.refused statement accepts_first

pub returns-in-Err-accept-clause-sound : goal.returns-in-Err-accept-clause-sound
returns-in-Err-accept-clause-sound g c = λ statement other index accepts_first accepts_second first_index second_index.
    refused_not g.H.NodeHash.digest_of g.V.VufCheck.accepted c.args.body.now c.args.name.now c.args.second.now c.in-Err-accept.refusal c.in-Err-accept.ensures.refused other accepts_second

pub returns-clause-exact : goal.returns-clause-exact
returns-clause-exact g c = (
  c.in-Ok.first.reply,
  c.in-Ok-accept.second.reply,
  c.in-Ok.ensures.accepted,
  c.in-Ok-accept.ensures.accepted,
  on_replies g.H.NodeHash.digest_of g.V.VufCheck.accepted c.args.body.now c.args.name.now c.in-Ok.first c.in-Ok-accept.second c.same_or_collision.result c.in-Ok.ensures.kept c.in-Ok-accept.ensures.kept c.same_or_collision.ensures.answers,
)

pub returns-clause-sound : goal.returns-clause-sound
returns-clause-sound g c =
    sound g.H.NodeHash.digest_of g.V.VufCheck.accepted c.args.body.now c.args.name.now c.args.first.now c.args.second.now c.in-Ok.first.reply c.in-Ok-accept.second.reply
    c.in-Ok.ensures.accepted c.in-Ok-accept.ensures.accepted c.same_or_collision.result
    (on_replies g.H.NodeHash.digest_of g.V.VufCheck.accepted c.args.body.now c.args.name.now c.in-Ok.first c.in-Ok-accept.second c.same_or_collision.result c.in-Ok.ensures.kept c.in-Ok-accept.ensures.kept c.same_or_collision.ensures.answers)

pub returns-clause-counted : goal.returns-clause-counted
returns-clause-counted g c =
    omega (arith, c.in-Ok.ensures.counted, c.in-Ok-accept.ensures.counted, c.same_or_collision.ensures.counted, c.in-Ok.ensures.accepted.0.1.3.0, c.in-Ok-accept.ensures.accepted.0.1.3.0)
