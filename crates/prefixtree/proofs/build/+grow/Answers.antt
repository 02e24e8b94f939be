use Rattle.std.proofs.Common.{rules, ◌≡◌, ◌+◌, ◌≤◌, ◌++◌, refl, sym, ap, subst, ◌∙◌, arith}
use Rattle.prefixtree.specs.Built.{contents, IsBuilt}
use Rattle.prefixtree.specs.Growth.{grown}
use Rattle.prefixtree.proofs.Counts.{after-none, after-one, after-sides}
use Rattle.prefixtree.proofs.Growing.{comes-as}
use Rattle.prefixtree.proofs.build.+grow.Goals as goal

pub returns-in-Kept : goal.returns-in-Kept
returns-in-Kept g t c =
    let of = g.H.NodeHash.digest_of in
    let told = comes-as c.args.prefix.now c.args.level c.args.before c.args.changes.now _ _ c.in_ok-node.ensures c.in-Kept.is of c.args.nonce.now c.requires.place in
    record { built = told.0; items = told.1; work = omega arith; exact = after-none _ _ told.2 }

pub returns-in-Vacant : goal.returns-in-Vacant
returns-in-Vacant g t c =
    let of = g.H.NodeHash.digest_of in
    let told = comes-as c.args.prefix.now c.args.level c.args.before c.args.changes.now _ _ c.in_ok-node.ensures c.in-Vacant.is of c.args.nonce.now c.requires.place in
    record {
      built = subst (IsBuilt of c.args.nonce.now c.args.prefix.now c.args.level) (sym c.empty.ensures.node) refl;
      items = ap contents c.empty.ensures.node ∙ sym told.0;
      work = omega (arith, told.1, c.empty.ensures.work);
      exact = after-one _ _ _ c.empty.ensures.exact told.1;
    }

pub returns-in-Single : goal.returns-in-Single
returns-in-Single g t c =
    let of = g.H.NodeHash.digest_of in
    let told = comes-as c.args.prefix.now c.args.level c.args.before c.args.changes.now _ _ c.in_ok-node.ensures c.in-Single.is of c.args.nonce.now c.requires.place in
    record {
      built = subst (IsBuilt of c.args.nonce.now c.args.prefix.now c.args.level) (sym c.leaf.ensures.node) (refl, told.1, told.2);
      items = ap contents c.leaf.ensures.node ∙ sym told.0;
      work = omega (arith, told.3, c.leaf.ensures.work);
      exact = after-one _ _ _ c.leaf.ensures.exact told.3;
    }

pub halves-requires-clause-level : goal.halves-requires-clause-level
halves-requires-clause-level g t c =
    let of = g.H.NodeHash.digest_of in
    let told = comes-as c.args.prefix.now c.args.level c.args.before c.args.changes.now _ _ c.in_ok-node.ensures c.in-Parted.is of c.args.nonce.now c.requires.place in
    told.below_256

pub grow-requires : goal.grow-requires
grow-requires g t c κs within =
    let of = g.H.NodeHash.digest_of in
    let told = comes-as c.args.prefix.now c.args.level c.args.before c.args.changes.now _ _ c.in_ok-node.ensures c.in-Parted.is of c.args.nonce.now c.requires.place in
    let deeper : c.args.level + 1 ≤ 256 = omega (arith, told.below_256) in
    (omega (arith, told.below_256), (within, (deeper, rw c.halves.ensures.zeros told.zeros)))

pub returns-in_err-zero_side-in-Parted : goal.returns-in_err-zero_side-in-Parted
returns-in_err-zero_side-in-Parted g t c =
    let of = g.H.NodeHash.digest_of in
    let told = comes-as c.args.prefix.now c.args.level c.args.before c.args.changes.now _ _ c.in_ok-node.ensures c.in-Parted.is of c.args.nonce.now c.requires.place in
    record { built = search rules; items = search rules; work = omega (arith, told.counted, rw c.halves.ensures.zeros at c.grow.ensures.work); exact = search rules }

pub with_one-requires : goal.with_one-requires
with_one-requires g t c =
    let of = g.H.NodeHash.digest_of in
    let told = comes-as c.args.prefix.now c.args.level c.args.before c.args.changes.now _ _ c.in_ok-node.ensures c.in-Parted.is of c.args.nonce.now c.requires.place in
    told.below_256

pub grow-requires-in-Parted : goal.grow-requires-in-Parted
grow-requires-in-Parted g t c κs within =
    let of = g.H.NodeHash.digest_of in
    let told = comes-as c.args.prefix.now c.args.level c.args.before c.args.changes.now _ _ c.in_ok-node.ensures c.in-Parted.is of c.args.nonce.now c.requires.place in
    let deeper : c.args.level + 1 ≤ 256 = omega (arith, told.below_256) in
    (omega (arith, told.below_256), (within, (deeper, rw (c.with_one.ensures, c.halves.ensures.ones) told.ones)))

pub returns-in_err-one_side-in-Parted : goal.returns-in_err-one_side-in-Parted
returns-in_err-one_side-in-Parted g t c =
    let of = g.H.NodeHash.digest_of in
    let told = comes-as c.args.prefix.now c.args.level c.args.before c.args.changes.now _ _ c.in_ok-node.ensures c.in-Parted.is of c.args.nonce.now c.requires.place in
    record {
      built = search rules;
      items = search rules;
      work = omega (arith, told.counted, rw c.halves.ensures.zeros at c.grow.ensures.work, rw c.halves.ensures.ones at c.grow-in-Parted.ensures.work);
      exact = search rules;
    }

pub returns-in_err-children-in-Parted : goal.returns-in_err-children-in-Parted
returns-in_err-children-in-Parted g t c =
    let of = g.H.NodeHash.digest_of in
    let told = comes-as c.args.prefix.now c.args.level c.args.before c.args.changes.now _ _ c.in_ok-node.ensures c.in-Parted.is of c.args.nonce.now c.requires.place in
    record {
      built = search rules;
      items = search rules;
      work = omega (arith, told.counted, rw c.halves.ensures.zeros at c.grow.ensures.work, rw c.halves.ensures.ones at c.grow-in-Parted.ensures.work);
      exact = search rules;
    }

pub returns-in_ok-children-in-Parted : goal.returns-in_ok-children-in-Parted
returns-in_ok-children-in-Parted g t c =
    let of = g.H.NodeHash.digest_of in
    let told = comes-as c.args.prefix.now c.args.level c.args.before c.args.changes.now _ _ c.in_ok-node.ensures c.in-Parted.is of c.args.nonce.now c.requires.place in
    let zero_side = c.in_ok-zero_side-in-Parted.zero_side in
    let one_side = c.in_ok-one_side-in-Parted.one_side in
    let made = c.in_ok-children-in-Parted.ensures.ok in
    let held : contents zero_side ++ contents one_side ≡ grown c.args.before c.args.changes.now =
    rw (c.in_ok-zero_side-in-Parted.ensures.items, c.in_ok-one_side-in-Parted.ensures.items, c.halves.ensures.zeros, c.halves.ensures.ones) (sym told.both) in
    record {
      built = subst (IsBuilt of c.args.nonce.now c.args.prefix.now c.args.level) (sym c.interior.ensures.node)
          (refl, told.below_256, rw (made, held) told.two, rw made c.in_ok-zero_side-in-Parted.ensures.built, rw made (rw c.with_one.ensures at c.in_ok-one_side-in-Parted.ensures.built));
      items = ap contents c.interior.ensures.node ∙ rw made held;
      work = omega (arith, told.counted, rw c.halves.ensures.zeros at c.grow.ensures.work, rw c.halves.ensures.ones at c.grow-in-Parted.ensures.work, c.interior.ensures.work);
      exact = after-sides _ _ _ _ _ _ _ (rw c.halves.ensures.zeros at c.in_ok-zero_side-in-Parted.ensures.exact) (rw c.halves.ensures.ones at c.in_ok-one_side-in-Parted.ensures.exact)
          c.interior.ensures.exact told.counted;
    }
