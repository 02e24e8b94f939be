use Rattle.monitor.proofs.Watching.{updated-watching}
use Rattle.monitor.proofs.monitor.Monitor.update.Goals as goal

pub invariant_of-self : goal.invariant_of-self
invariant_of-self g c = updated-watching g.H.NodeHash.digest_of g.S.Verifier.verified _ c.self.invariant _ c.args.bytes.now c.update.result c.update.ensures.updates c.update.ensures.chain
