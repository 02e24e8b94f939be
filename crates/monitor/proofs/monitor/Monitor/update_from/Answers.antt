use Rattle.monitor.proofs.Watching.{updated-from-watching}
use Rattle.monitor.proofs.monitor.Monitor.update_from.Goals as goal

pub invariant_of-self : goal.invariant_of-self
invariant_of-self g c =
    updated-from-watching g.H.NodeHash.digest_of g.S.Verifier.verified _ c.self.invariant _ c.args.feed.now c.update_from.new.feed c.args.piece.now c.update_from.result c.update_from.ensures.updates c.update_from.ensures.chain
