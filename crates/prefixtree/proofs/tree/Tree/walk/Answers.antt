use Rattle.std.proofs.Common.{ap, subst}
use Rattle.prefixtree.specs.Placement.{IsPlacement}
use Rattle.prefixtree.specs.Contents.{Contents}
use Rattle.prefixtree.proofs.Placements.{placement-IsBuilt}
use Rattle.prefixtree.proofs.tree.Tree.walk.Goals as goal

pub returns-clause-placement : goal.returns-clause-placement
returns-clause-placement g c = subst IsPlacement (ap (λ (x : Contents). x.items) c.self.view_is) (placement-IsBuilt g.H.NodeHash.digest_of c.self.inside.nonce c.self.inside.node c.self.invariant)
