use Rattle.asking.proofs.Stopped.{refuses_list, refuses_still}
use Rattle.asking.proofs.following.update.Goals as goal

pub returns-in_ok-tell_client-in-Err-clause-refused : goal.returns-in_ok-tell_client-in-Err-clause-refused
returns-in_ok-tell_client-in-Err-clause-refused g c =
    let refuses = refuses_list g.H.NodeHash.digest_of g.S.Verifier.verified c.args.list.now c.args.monitor.now.client c.update.new.self.client c.update.result c.in-Err.why c.in-Err.is c.update.ensures.updates
    c.in_ok-tell_client-in-Err.ensures.known in
    let still = refuses_still g.H.NodeHash.digest_of g.S.Verifier.verified c.args.list.now c.args.monitor.now c.update.new.self refuses.1 c.update.ensures.others in
    λ stopped. (c.in-Err.why, (refuses.0, still), c.in_ok-tell_client-in-Err.ensures.told)
