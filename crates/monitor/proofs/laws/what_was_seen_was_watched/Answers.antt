use Rattle.monitor.proofs.Reconciled.{saw_the_same}
use Rattle.monitor.proofs.laws.what_was_seen_was_watched.Goals as goal

pub returns : goal.returns
returns g c monitor client outcome watching reconciled look root has named watched at =
    saw_the_same g.H.NodeHash.digest_of g.V.VufCheck.accepted monitor client outcome watching reconciled look root has named watched at
