use Rattle.asking.proofs.FinalsNoted.{told-looks}
use Rattle.asking.proofs.asker.Asker.tell_looks.Goals as goal

pub returns-clause-tells : goal.returns-clause-tells
returns-clause-tells g c =
    told-looks g.H.NodeHash.digest_of c.args.self.now.client c.tell.result c.args.name c.in-Some.broken c.args.self.now.finals c.tell.new.self c.args.said.now c.tell.new.said c.in-Some.ensures.found c.tell.ensures.tells
