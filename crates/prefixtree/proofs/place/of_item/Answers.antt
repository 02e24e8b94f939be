use Rattle.std.proofs.Common.{◌∙◌, sym}
use Rattle.std.specs.Cmp.Lexicographic.{same_text, other_text}
use Rattle.std.proofs.lemmas.Result.{IfOk-weaker}
use Rattle.prefixtree.proofs.Forks.{differ_below}
use Rattle.prefixtree.proofs.Growing.{item-kept, item-parted, item-replaced, only, put-other, put-several}
use Rattle.prefixtree.proofs.Halves.{level-below}
use Rattle.prefixtree.proofs.place.of_item.Goals as goal

pub part_item-requires : goal.part_item-requires
part_item-requires c =
    let apart = other_text c.change-item.result.0 c.args.item.now.value.0 (rw c.deref.ensures at c.if-eq.ensures) in
    let is = only c.args.changes.now c.change-item.result c.in-len1.len_at_least c.in-len1.len_below c.change-item.is in
    let under = rw is at c.requires.under.1 in
    differ_below c.change-item.result.0 c.args.item.now.value.0 c.args.level under.placement.indices.0 c.requires.under.2 apart c.requires.level (under.prefixed.0 ∙ sym c.requires.under.3)

pub part_item-requires-in_default : goal.part_item-requires-in_default
part_item-requires-in_default c = level-below c.requires.under.0 c.args.level c.args.changes.now c.requires.level c.in_default.len_at_least c.requires.under.1

pub returns-in_ok-clone-in-empty : goal.returns-in_ok-clone-in-empty
returns-in_ok-clone-in-empty c = λ of nonce prefix under w begins.
    item-kept prefix c.args.level c.args.item.now.value _ c.args.changes.now c.in-empty.len_below c.in_ok-clone-in-empty.ensures.cases w begins

pub returns-in_ok-new-in-len1 : goal.returns-in_ok-new-in-len1
returns-in_ok-new-in-len1 c = λ of nonce prefix under w begins.
    let same = same_text c.change-item.result.0 c.args.item.now.value.0 (rw c.deref.ensures at c.if-eq.ensures) in
    let is = only c.args.changes.now c.change-item.result c.in-len1.len_at_least c.in-len1.len_below c.change-item.is in
    item-replaced prefix c.args.level c.args.item.now.value c.change-item.result _ c.args.changes.now is c.in_ok-new-in-len1.ensures.ok same w begins

pub returns-else-eq : goal.returns-else-eq
returns-else-eq c = IfOk-weaker c.part_item.result _ _ (λ outcome h. λ of nonce prefix under w begins.
    let apart = other_text c.change-item.result.0 c.args.item.now.value.0 (rw c.deref.ensures at c.if-eq.ensures) in
    let is = only c.args.changes.now c.change-item.result c.in-len1.len_at_least c.in-len1.len_below c.change-item.is in
    let at = rw is at under in
    let below = differ_below c.change-item.result.0 c.args.item.now.value.0 c.args.level at.placement.indices.0 w apart c.requires.level (at.prefixed.0 ∙ sym begins) in
    item-parted of nonce prefix c.args.level c.args.changes.now under below c.args.item.now.value w begins (put-other c.args.item.now.value c.change-item.result c.args.changes.now is apart) outcome h)
    c.part_item.ensures

pub returns-in_default : goal.returns-in_default
returns-in_default c = IfOk-weaker c.part_item-in_default.result _ _ (λ outcome h. λ of nonce prefix under w begins.
    let below = level-below prefix c.args.level c.args.changes.now c.requires.level c.in_default.len_at_least under in
    item-parted of nonce prefix c.args.level c.args.changes.now under below c.args.item.now.value w begins
    (put-several prefix c.args.level c.args.item.now.value c.args.changes.now under c.in_default.len_at_least) outcome h)
    c.part_item-in_default.ensures
