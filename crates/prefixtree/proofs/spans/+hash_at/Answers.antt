use Rattle.std.proofs.Common.{◌+◌, ◌-◌, ◌<◌, ◌≤◌, ◌∙◌, sym, ap, arith}
use Rattle.nodehash.specs.NodeTexts.{interior_bytes}
use Rattle.prefixtree.specs.Node.{node}
use Rattle.prefixtree.proofs.Counts.{after-one, after-sides, node_count-few, node_count-halves}
use Rattle.prefixtree.proofs.Halves.{level-below, under-ones, under-zeros}
use Rattle.prefixtree.proofs.SpanRows.{node-few, node-halves}
use Rattle.prefixtree.proofs.spans.+hash_at.Goals as goal

pub returns-then-items-le1-clause-node : goal.returns-then-items-le1-clause-node
returns-then-items-le1-clause-node g t c =
    let of = g.H.NodeHash.digest_of in
    c.digest.ensures.value ∙ ap of c.bytes.ensures.value
    ∙ sym (node-few of c.args.nonce.now c.args.prefix.now c.args.level c.args.items.now c.few_text.result c.requires.level c.if-items-le1.true c.few_text.ensures)

pub hash_in_rows-requires-clause-level : goal.hash_in_rows-requires-clause-level
hash_in_rows-requires-clause-level g t c = level-below c.args.prefix.now c.args.level c.args.items.now c.requires.level c.if-items-le1.false c.requires.under

pub halves-requires-clause-level : goal.halves-requires-clause-level
halves-requires-clause-level g t c = level-below c.args.prefix.now c.args.level c.args.items.now c.requires.level c.if-items-le1.false c.requires.under

pub hash_at-requires : goal.hash_at-requires
hash_at-requires g t c κs within =
    let less : c.args.level < 256 = level-below c.args.prefix.now c.args.level c.args.items.now c.requires.level c.if-items-le1.false c.requires.under in
    let deeper : c.args.level + 1 ≤ 256 = omega (arith, less) in
    (omega (arith, less), (within, (deeper, rw c.halves.ensures.zeros (under-zeros c.args.prefix.now c.args.level c.args.items.now less c.requires.under))))

pub with_one-requires : goal.with_one-requires
with_one-requires g t c = level-below c.args.prefix.now c.args.level c.args.items.now c.requires.level c.if-items-le1.false c.requires.under

pub hash_at-requires-2 : goal.hash_at-requires-2
hash_at-requires-2 g t c κs within =
    let less : c.args.level < 256 = level-below c.args.prefix.now c.args.level c.args.items.now c.requires.level c.if-items-le1.false c.requires.under in
    let deeper : c.args.level + 1 ≤ 256 = omega (arith, less) in
    (omega (arith, less), (within, (deeper, rw (c.with_one.ensures, c.halves.ensures.ones) (under-ones c.args.prefix.now c.args.level c.args.items.now less c.requires.under))))

pub returns-clause-node : goal.returns-clause-node
returns-clause-node g t c =
    let of = g.H.NodeHash.digest_of in
    let level = c.args.level in
    let items = c.args.items.now in
    let at = node of c.args.nonce.now in
    let less : level < 256 = level-below c.args.prefix.now level items c.requires.level c.if-items-le1.false c.requires.under in
    let zero_side = c.in_ok-zero_side.ensures.node ∙ ap (at c.args.prefix.now (256 - (level + 1))) c.halves.ensures.zeros in
    let one_side = c.in_ok-one_side.ensures.node ∙ (λ i. at (c.with_one.ensures i) (256 - (level + 1)) (c.halves.ensures.ones i)) in
    c.digest-2.ensures.value ∙ ap of (c.bytes-2.ensures.value ∙ c.interior_text.ensures.value ∙ (λ i. interior_bytes (zero_side i) (one_side i)))
    ∙ sym (node-halves of c.args.nonce.now c.args.prefix.now level items less c.if-items-le1.false)

pub returns-then-items-le1-clause-work : goal.returns-then-items-le1-clause-work
returns-then-items-le1-clause-work g t c = omega (arith, c.digest.ensures.count, node_count-few (256 - c.args.level) c.args.items.now c.if-items-le1.true)

pub returns-then-items-le1-clause-exact : goal.returns-then-items-le1-clause-exact
returns-then-items-le1-clause-exact g t c = after-one _ _ _ c.digest.ensures.count (node_count-few (256 - c.args.level) c.args.items.now c.if-items-le1.true)

pub returns-in_err-zero_side-clause-work : goal.returns-in_err-zero_side-clause-work
returns-in_err-zero_side-clause-work g t c =
    let less : c.args.level < 256 = level-below c.args.prefix.now c.args.level c.args.items.now c.requires.level c.if-items-le1.false c.requires.under in
    omega (arith, rw c.halves.ensures.zeros at c.hash_at.ensures.work, node_count-halves c.args.level c.args.items.now less c.if-items-le1.false)

pub returns-in_err-one_side-clause-work : goal.returns-in_err-one_side-clause-work
returns-in_err-one_side-clause-work g t c =
    let less : c.args.level < 256 = level-below c.args.prefix.now c.args.level c.args.items.now c.requires.level c.if-items-le1.false c.requires.under in
    omega (
      arith,
      rw c.halves.ensures.zeros at c.hash_at.ensures.work,
      rw c.halves.ensures.ones at c.hash_at-2.ensures.work,
      node_count-halves c.args.level c.args.items.now less c.if-items-le1.false,
    )

pub returns-clause-work : goal.returns-clause-work
returns-clause-work g t c =
    let less : c.args.level < 256 = level-below c.args.prefix.now c.args.level c.args.items.now c.requires.level c.if-items-le1.false c.requires.under in
    omega (
      arith,
      rw c.halves.ensures.zeros at c.hash_at.ensures.work,
      rw c.halves.ensures.ones at c.hash_at-2.ensures.work,
      c.digest-2.ensures.count,
      node_count-halves c.args.level c.args.items.now less c.if-items-le1.false,
    )

pub returns-clause-exact : goal.returns-clause-exact
returns-clause-exact g t c =
    let less : c.args.level < 256 = level-below c.args.prefix.now c.args.level c.args.items.now c.requires.level c.if-items-le1.false c.requires.under in
    after-sides _ _ _ _ _ _ _ (rw c.halves.ensures.zeros at c.in_ok-zero_side.ensures.exact) (rw c.halves.ensures.ones at c.in_ok-one_side.ensures.exact)
    c.digest-2.ensures.count (node_count-halves c.args.level c.args.items.now less c.if-items-le1.false)
