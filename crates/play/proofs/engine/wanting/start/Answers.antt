use Rattle.play.proofs.Refused.{starts-well}
use Rattle.play.proofs.engine.wanting.start.Goals as goal

pub client_memory-requires : goal.client_memory-requires
client_memory-requires g c =
    let (root, spells, verifies) = c.requires in
    starts-well g.S.Verifier.verified c.args.key c.args.bytes.now root spells verifies c.in-Err.why c.in-Err.ensures
