use Rattle.std.proofs.Common.{rules}
use Rattle.audits.proofs.Answered.{answered}
use Rattle.audits.proofs.auditing.observe_line.Goals as goal

pub returns-in-Ok : goal.returns-in-Ok
returns-in-Ok g c =
    answered g.H.NodeHash.digest_of g.S.Verifier.verified c.args.key.now c.args.auditor.now c.args.line.now c.in-Ok.bytes.items c.observe.result c.observe.new.self
    (search rules) (search rules) c.observe.ensures.evidence
