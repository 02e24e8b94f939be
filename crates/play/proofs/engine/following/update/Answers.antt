use Rattle.std.proofs.Common.{ap, refl}
use Rattle.std.specs.Prelude.{is_ok}
use Rattle.play.proofs.Taken.{client-takes}
use Rattle.play.proofs.engine.following.update.Goals as goal

pub client_memory-requires : goal.client_memory-requires
client_memory-requires g c = c.requires.offered c.args.monitor.now.client c.update.new.self.client c.update.result c.in-Err.why refl c.in-Err.is c.update.ensures.updates

pub returns-in-Ok : goal.returns-in-Ok
returns-in-Ok g c roots spelled = (
  client-takes g.H.NodeHash.digest_of g.S.Verifier.verified c.args.monitor.now.client c.update.new.self.client c.args.list.now roots spelled c.update.result (ap is_ok c.in-Ok.is) c.update.ensures.updates,
  c.update.ensures.others,
)
