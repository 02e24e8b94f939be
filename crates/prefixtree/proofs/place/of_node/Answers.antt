use Rattle.std.proofs.Common.{◌≡◌, ◌-◌, ◌<◌, rules, length, [], ◌∷◌, ap, sym, ◌∙◌, subst, arith}
use Rattle.std.proofs.lemmas.Result.{IfOk-weaker}
use Rattle.prefixtree.specs.Built.{contents, IsBuilt}
use Rattle.prefixtree.proofs.Growing.{comes-few, node-parted, put_all-no}
use Rattle.prefixtree.proofs.MadeCounts.{made_count-none}
use Rattle.prefixtree.proofs.place.of_node.Goals as goal

pub returns-then-is_empty : goal.returns-then-is_empty
returns-then-is_empty c = λ of nonce prefix under built.
    let none : length c.args.changes.now ≡ 0 = search rules in (
      c.in_ok-share.ensures.built of nonce prefix c.args.level built,
      c.in_ok-share.ensures.items ∙ sym (put_all-no (contents c.args.node.now) c.args.changes.now none),
      made_count-none (256 - c.args.level) (contents c.args.node.now) c.args.changes.now none,
    )

pub returns-in-Empty : goal.returns-in-Empty
returns-in-Empty c = IfOk-weaker c.of_nothing.result _ _ (λ outcome h. λ of nonce prefix under built.
    let some : 0 < length c.args.changes.now = search rules in
    let held : contents c.args.node.now ≡ [] = ap contents c.in-Empty.is in
    comes-few of nonce prefix c.args.level (contents c.args.node.now) [] c.args.changes.now outcome held (omega arith) some (h of nonce prefix c.requires.level under))
    c.of_nothing.ensures

pub returns-in-Leaf : goal.returns-in-Leaf
returns-in-Leaf c = IfOk-weaker c.of_item.result _ _ (λ outcome h. λ of nonce prefix under built.
    let some : 0 < length c.args.changes.now = search rules in
    let held : contents c.args.node.now ≡ c.in-Leaf.item.value ∷ [] = ap contents c.in-Leaf.is in
    let leaf = subst (IsBuilt of nonce prefix c.args.level) c.in-Leaf.is built in
    comes-few of nonce prefix c.args.level (contents c.args.node.now) (c.in-Leaf.item.value ∷ []) c.args.changes.now outcome held (omega arith) some (h of nonce prefix under leaf.1 leaf.2))
    c.of_item.ensures

pub returns-in_ok-share-in-Interior-2 : goal.returns-in_ok-share-in-Interior-2
returns-in_ok-share-in-Interior-2 c = λ of nonce prefix under built.
    node-parted of nonce prefix c.args.level c.args.changes.now under c.in_ok-share-in-Interior.field-0 c.in_ok-share-in-Interior-2.field-0 (search rules) c.in-Interior.is built
    (rw c.deref.ensures at c.in_ok-share-in-Interior.ensures.built) (rw c.deref.ensures at c.in_ok-share-in-Interior.ensures.items)
    (rw c.deref-in-Interior.ensures at c.in_ok-share-in-Interior-2.ensures.built) (rw c.deref-in-Interior.ensures at c.in_ok-share-in-Interior-2.ensures.items)
