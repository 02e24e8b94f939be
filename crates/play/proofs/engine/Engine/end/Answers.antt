use Rattle.std.proofs.Common.{subst}
use Rattle.epochs.specs.DirectoryStates.{HasKeysOf}
use Rattle.play.specs.Parties.{Parties}
use Rattle.play.proofs.Sessions.{end_keys, ended}
use Rattle.play.proofs.engine.Engine.end.Goals as goal

pub returns-clause-done : goal.returns-clause-done
returns-clause-done g c stand are =
    let at = rw (← c.self.view_is) at are in
    let happens = rw c.get.ensures.value at c.event-ended.ensures.happens in
    let above = rw c.get.ensures.value at c.get.ensures.nonzero in
    ended g.H.NodeHash.digest_of g.V.Vuf.value_of g.S.Signer.signature_of g.R.Rng.stream g.V.VufCheck.accepted g.S.Verifier.verified _ _ _ _ _ _ above happens stand at

pub returns-clause-keys : goal.returns-clause-keys
returns-clause-keys g c =
    subst (λ (parties : Parties g.row.R.Denot). HasKeysOf parties.hub.service.directory c.event-ended.new.self.service.directory) c.self.view_is
    (end_keys g.H.NodeHash.digest_of g.V.Vuf.value_of g.S.Signer.signature_of g.R.Rng.stream g.V.VufCheck.accepted g.S.Verifier.verified
    c.self.inside.hub c.event-ended.new.self c.get.result c.new-nothing.result.items c.event-ended.new.output.items c.event-ended.result c.event-ended.ensures.happens)
