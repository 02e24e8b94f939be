use Rattle.std.proofs.Common.{◌∙◌, refl}
use Rattle.prefixtree.proofs.Siblings.{lower}
use Rattle.prefixtree.proofs.walk.Walk.step.Goals as goal

pub invariant_of-self : goal.invariant_of-self
invariant_of-self g c =
    let walk = c.self.inside in
    let down = lower g.H.NodeHash.digest_of walk.tree.now walk.index.now walk.level c.self.invariant c.in-Interior.is (rw c.deref.ensures at c.sides.ensures.below) (rw c.deref.ensures at c.sides.ensures.beside) in
    down.on_way

pub returns : goal.returns
returns g c =
    let walk = c.self.inside in
    let down = lower g.H.NodeHash.digest_of walk.tree.now walk.index.now walk.level c.self.invariant c.in-Interior.is (rw c.deref.ensures at c.sides.ensures.below) (rw c.deref.ensures at c.sides.ensures.beside) in
    rw (← c.self.view_is) (down.below_256, c.hash.ensures ∙ down.keeps, refl)
