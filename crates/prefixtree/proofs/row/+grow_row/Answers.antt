use Rattle.std.proofs.Common.{rules, ◌≡◌, ℕ, ◌+◌, ◌<◌, ◌≤◌, ◌∙◌, ap, sym, length, [], List, subst, arith}
use Rattle.std.proofs.lemmas.List.{nil_from_length}
use Rattle.std.proofs.lemmas.Result.{IfOk-weaker, on_ok_weaker}
use Rattle.nodehash.specs.Digests.{after_digests}
use Rattle.nodehash.proofs.Counting.{after_digests-join}
use Rattle.prefixtree.specs.Rows.{AreSplit, row_count, row_digests}
use Rattle.prefixtree.proofs.RowsMade.{built-length, made-built, split-count, split-length, split-level, split-places, split-sides}
use Rattle.prefixtree.specs.declared.row.Place.{Place}
use Rattle.prefixtree.proofs.row.+grow_row.Goals as goal

pub make_row-requires-clause-places : goal.make_row-requires-clause-places
make_row-requires-clause-places g t c =
    split-length g.H.NodeHash.digest_of c.args.nonce.now c.args.changes.now c.args.level c.args.places.now _ _
    (c.in_ok-outcomes.ensures g.H.NodeHash.digest_of c.args.nonce.now c.requires.places)

pub make_row-requires-clause-lower : goal.make_row-requires-clause-lower
make_row-requires-clause-lower g t c =
    let split = c.in_ok-outcomes.ensures g.H.NodeHash.digest_of c.args.nonce.now c.requires.places in
    let none : length c.in_ok-outcomes.lower.items ≡ 0 = search rules in
    let sides = split-sides g.H.NodeHash.digest_of c.args.nonce.now c.args.changes.now c.args.level c.args.places.now _ _ split in
    omega (arith, none, sides, ap length c.new.ensures.items)

pub returns-then-is_empty-clause-built : goal.returns-then-is_empty-clause-built
returns-then-is_empty-clause-built g t c =
    let of = g.H.NodeHash.digest_of in
    let none : length c.in_ok-outcomes.lower.items ≡ 0 = search rules in
    let nil = nil_from_length c.in_ok-outcomes.lower.items none in
    let split = subst (λ (l : List Place). AreSplit of c.args.nonce.now c.args.changes.now c.args.level c.args.places.now c.in_ok-outcomes.outcomes.items l) nil (c.in_ok-outcomes.ensures of c.args.nonce.now c.requires.places) in
    IfOk-weaker c.make_row.result _ _ (λ nodes made.
    made-built of c.args.nonce.now c.args.changes.now c.args.level c.args.places.now c.in_ok-outcomes.outcomes.items [] [] nodes.items
    split tt (rw c.new.ensures.items at made))
    c.make_row.ensures.made

pub returns-then-is_empty-clause-work : goal.returns-then-is_empty-clause-work
returns-then-is_empty-clause-work g t c =
    let split = c.in_ok-outcomes.ensures g.H.NodeHash.digest_of c.args.nonce.now c.requires.places in
    omega (
      arith,
      c.make_row.ensures.work,
      split-count g.H.NodeHash.digest_of c.args.nonce.now c.args.changes.now c.args.level c.args.places.now _ _ split,
    )

pub returns-then-is_empty-clause-exact : goal.returns-then-is_empty-clause-exact
returns-then-is_empty-clause-exact g t c =
    let count = g.H.NodeHash.digests in
    let none : length c.in_ok-outcomes.lower.items ≡ 0 = search rules in
    let nil = nil_from_length c.in_ok-outcomes.lower.items none in
    let split = c.in_ok-outcomes.ensures g.H.NodeHash.digest_of c.args.nonce.now c.requires.places in
    let here : ℕ = row_digests c.in_ok-outcomes.outcomes.items in
    let all : row_count c.args.level c.args.changes.now c.args.places.now ≡ here = omega (
      arith,
      split-count g.H.NodeHash.digest_of c.args.nonce.now c.args.changes.now c.args.level c.args.places.now _ _ split,
      ap (row_count (c.args.level + 1) c.args.changes.now) nil,
    ) in
    on_ok_weaker c.make_row.result (λ (made : count c.make_row.new.hash ≡ after_digests here (count c.args.hash.now)).
    made ∙ ap (λ (n : ℕ). after_digests n (count c.args.hash.now)) (sym all))
    c.make_row.ensures.exact

pub grow_row-requires : goal.grow_row-requires
grow_row-requires g t c κs within =
    let some : 0 < length c.in_ok-outcomes.lower.items = search rules in
    let split = c.in_ok-outcomes.ensures g.H.NodeHash.digest_of c.args.nonce.now c.requires.places in
    let less = split-level g.H.NodeHash.digest_of c.args.nonce.now c.args.changes.now c.args.level c.args.places.now _ _ split some in
    let deeper : c.args.level + 1 ≤ 256 = omega (arith, less) in
    (omega (arith, less), (within, (deeper, rw c.deref.ensures.value (split-places g.H.NodeHash.digest_of c.args.nonce.now c.args.changes.now c.args.level c.args.places.now _ _ split))))

pub returns-in_err-below-clause-work : goal.returns-in_err-below-clause-work
returns-in_err-below-clause-work g t c =
    let split = c.in_ok-outcomes.ensures g.H.NodeHash.digest_of c.args.nonce.now c.requires.places in
    omega (arith, rw c.deref.ensures.value at c.grow_row.ensures.work, split-count g.H.NodeHash.digest_of c.args.nonce.now c.args.changes.now c.args.level c.args.places.now _ _ split)

pub make_row-requires-2-clause-places : goal.make_row-requires-2-clause-places
make_row-requires-2-clause-places g t c =
    split-length g.H.NodeHash.digest_of c.args.nonce.now c.args.changes.now c.args.level c.args.places.now _ _
    (c.in_ok-outcomes.ensures g.H.NodeHash.digest_of c.args.nonce.now c.requires.places)

pub make_row-requires-2-clause-lower : goal.make_row-requires-2-clause-lower
make_row-requires-2-clause-lower g t c =
    let of = g.H.NodeHash.digest_of in
    let split = c.in_ok-outcomes.ensures of c.args.nonce.now c.requires.places in
    built-length of c.args.nonce.now c.args.changes.now (c.args.level + 1) _ _ (rw c.deref.ensures.value at c.in_ok-below.ensures.built)
    ∙ split-sides of c.args.nonce.now c.args.changes.now c.args.level c.args.places.now _ _ split

pub returns-clause-built : goal.returns-clause-built
returns-clause-built g t c =
    let of = g.H.NodeHash.digest_of in
    let split = c.in_ok-outcomes.ensures of c.args.nonce.now c.requires.places in
    let built = rw c.deref.ensures.value at c.in_ok-below.ensures.built in
    IfOk-weaker c.make_row-2.result _ _ (λ nodes made.
    made-built of c.args.nonce.now c.args.changes.now c.args.level c.args.places.now c.in_ok-outcomes.outcomes.items c.in_ok-outcomes.lower.items c.in_ok-below.below.items nodes.items
    split built made)
    c.make_row-2.ensures.made

pub returns-clause-work : goal.returns-clause-work
returns-clause-work g t c =
    let split = c.in_ok-outcomes.ensures g.H.NodeHash.digest_of c.args.nonce.now c.requires.places in
    omega (
      arith,
      rw c.deref.ensures.value at c.grow_row.ensures.work,
      c.make_row-2.ensures.work,
      split-count g.H.NodeHash.digest_of c.args.nonce.now c.args.changes.now c.args.level c.args.places.now _ _ split,
    )

pub returns-clause-exact : goal.returns-clause-exact
returns-clause-exact g t c =
    let count = g.H.NodeHash.digests in
    let split = c.in_ok-outcomes.ensures g.H.NodeHash.digest_of c.args.nonce.now c.requires.places in
    let below : ℕ = row_count (c.args.level + 1) c.args.changes.now c.in_ok-outcomes.lower.items in
    let here : ℕ = row_digests c.in_ok-outcomes.outcomes.items in
    on_ok_weaker c.make_row-2.result (λ (made : count c.make_row-2.new.hash ≡ after_digests here (count c.grow_row.new.hash)).
    made ∙ ap (after_digests here) (rw c.deref.ensures.value at c.in_ok-below.ensures.exact)
    ∙ after_digests-join below here (count c.args.hash.now)
    ∙ ap (λ (n : ℕ). after_digests n (count c.args.hash.now)) (sym (split-count g.H.NodeHash.digest_of c.args.nonce.now c.args.changes.now c.args.level c.args.places.now _ _ split)))
    c.make_row-2.ensures.exact
