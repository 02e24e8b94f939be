use Rattle.std.proofs.Common.{◌≡◌, ◌-◌, [], ◌∷◌, ap, sym, subst}
use Rattle.std.proofs.lemmas.Result.{IfOk-weaker}
use Rattle.prefixtree.specs.Placement.{Items, put_all}
use Rattle.prefixtree.specs.Node.{node_count}
use Rattle.prefixtree.specs.Built.{contents, IsBuilt}
use Rattle.prefixtree.specs.Growth.{Comes}
use Rattle.prefixtree.proofs.Growing.{stale-parted}
use Rattle.prefixtree.proofs.place.of_stale.Goals as goal

pub returns-in-Empty : goal.returns-in-Empty
returns-in-Empty c = IfOk-weaker c.of_nothing.result _ _ (λ outcome h. λ of nonce was prefix under built.
    let held : contents c.args.node.now ≡ [] = ap contents c.in-Empty.is in
    subst (λ (l : Items). Comes of nonce prefix c.args.level l c.args.changes.now (node_count (256 - c.args.level) (put_all l c.args.changes.now)) outcome)
    (sym held) (h of nonce prefix c.requires.level under))
    c.of_nothing.ensures

pub returns-in-Leaf : goal.returns-in-Leaf
returns-in-Leaf c = IfOk-weaker c.of_item.result _ _ (λ outcome h. λ of nonce was prefix under built.
    let held : contents c.args.node.now ≡ c.in-Leaf.item.value ∷ [] = ap contents c.in-Leaf.is in
    let leaf = subst (IsBuilt of was prefix c.args.level) c.in-Leaf.is built in
    subst (λ (l : Items). Comes of nonce prefix c.args.level l c.args.changes.now (node_count (256 - c.args.level) (put_all l c.args.changes.now)) outcome)
    (sym held) (h of nonce prefix under leaf.1 leaf.2))
    c.of_item.ensures

pub returns-in_ok-share-in-Interior-2 : goal.returns-in_ok-share-in-Interior-2
returns-in_ok-share-in-Interior-2 c = λ of nonce was prefix under built.
    stale-parted of nonce prefix c.args.level c.args.changes.now under was c.in_ok-share-in-Interior.field-0 c.in_ok-share-in-Interior-2.field-0 c.in-Interior.is built
    (rw c.deref.ensures at c.in_ok-share-in-Interior.ensures.built) (rw c.deref.ensures at c.in_ok-share-in-Interior.ensures.items)
    (rw c.deref-in-Interior.ensures at c.in_ok-share-in-Interior-2.ensures.built) (rw c.deref-in-Interior.ensures at c.in_ok-share-in-Interior-2.ensures.items)
