use Rattle.client.proofs.Rooted.{asked-at}
use Rattle.client.proofs.roots.asked.Goals as goal

pub returns : goal.returns
returns g c = asked-at c.args.chain.now c.args.epoch _ c.if-epoch-eq0.false c.at.ensures
