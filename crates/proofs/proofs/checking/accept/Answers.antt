use Rattle.proofs.proofs.Sound.{keeps_accepted, refuses_checked}
use Rattle.proofs.proofs.checking.accept.Goals as goal

pub returns-in-Ok-clause-refused : goal.returns-in-Ok-clause-refused
returns-in-Ok-clause-refused g c =
    refuses_checked g.H.NodeHash.digest_of g.V.VufCheck.accepted c.args.body.now c.args.name.now c.args.bytes.now c.in-Ok.view c.in-Ok.ensures.exact c.check.result c.check.ensures.first

pub returns-in-Ok-clause-accepted : goal.returns-in-Ok-clause-accepted
returns-in-Ok-clause-accepted g c =
    keeps_accepted g.H.NodeHash.digest_of g.V.VufCheck.accepted c.args.body.now c.args.name.now c.args.bytes.now c.in-Ok.view c.in-Ok.ensures.exact c.check.result
    (c.check.ensures.exact c.args.bytes.now c.in-Ok.ensures.exact) c.check.ensures.kept
