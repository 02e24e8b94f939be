use Rattle.play.proofs.Refused.{observes-well}
use Rattle.play.proofs.engine.wanting.observe.Goals as goal

pub auditor_memory-requires : goal.auditor_memory-requires
auditor_memory-requires g c =
    let (root, spells, verifies) = c.requires in
    observes-well g.S.Verifier.verified c.args.key.now c.args.bytes.now root spells verifies g.H.NodeHash.digest_of c.args.auditor.now c.observe.new.self c.in-Err.why
    c.in-Err.ensures.observes
