use Rattle.asking.proofs.HonestRoots.{sent_are_wanted}
use Rattle.asking.proofs.laws.sent_roots_are_wanted.Goals as goal

pub returns : goal.returns
returns g c = λ chain held from count all begin most reached. sent_are_wanted g.H.NodeHash.digest_of chain held from count all begin most reached
