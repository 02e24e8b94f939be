use Rattle.std.proofs.Common.{ℕ, ◌+◌, List, [], ◌∷◌, ◌++◌, length, sym, ap, ◌∙◌, refl}
use Rattle.std.proofs.lemmas.List.{append-nil, append_assoc}
use Rattle.prefixtree.specs.declared.row.Place.{Place}
use Rattle.prefixtree.proofs.RowPlaces.{comes-at, split-joined}
use Rattle.prefixtree.proofs.row.split_place.Goals as goal

pub halves-requires-clause-level : goal.halves-requires-clause-level
halves-requires-clause-level c =
    let is = c.requires.place.2 in
    (comes-at c.args.changes.now c.args.level c.args.place.now c.part-here.result.now _ _ c.part-here.ensures c.in_ok-node.ensures c.in-Parted.is c.requires.place.0 c.requires.place.1 is).below_256

pub with_one-requires : goal.with_one-requires
with_one-requires c =
    let is = c.requires.place.2 in
    (comes-at c.args.changes.now c.args.level c.args.place.now c.part-here.result.now _ _ c.part-here.ensures c.in_ok-node.ensures c.in-Parted.is c.requires.place.0 c.requires.place.1 is).below_256

pub returns-in-Kept : goal.returns-in-Kept
returns-in-Kept c = (
  [],
  sym (append-nil c.args.lower.now.items),
  λ of nonce places outcomes rest is split.
      let told = comes-at c.args.changes.now c.args.level c.args.place.now c.part-here.result.now _ _ c.part-here.ensures c.in_ok-node.ensures c.in-Kept.is of nonce is in
      (told.0, told.1, told.2, split),
)

pub returns-in-Vacant : goal.returns-in-Vacant
returns-in-Vacant c = (
  [],
  sym (append-nil c.args.lower.now.items),
  λ of nonce places outcomes rest is split.
      let told = comes-at c.args.changes.now c.args.level c.args.place.now c.part-here.result.now _ _ c.part-here.ensures c.in_ok-node.ensures c.in-Vacant.is of nonce is in
      (told.0, told.1, split),
)

pub returns-in-Single : goal.returns-in-Single
returns-in-Single c = (
  [],
  sym (append-nil c.args.lower.now.items),
  λ of nonce places outcomes rest is split.
      let told = comes-at c.args.changes.now c.args.level c.args.place.now c.part-here.result.now _ _ c.part-here.ensures c.in_ok-node.ensures c.in-Single.is of nonce is in
      (told.0, told.1, told.2, told.3, split),
)

pub returns-in_ok-push-in-Parted-2 : goal.returns-in_ok-push-in-Parted-2
returns-in_ok-push-in-Parted-2 c =
    let middle : ℕ = c.args.place.now.start + length c.halves.result.0.now in
    let zero_place : Place = record { prefix = c.args.place.now.prefix; before = c.in-Parted.sides.zero_side; start = c.args.place.now.start; end = middle } in
    let one_place : Place = record { prefix = c.with_one.result; before = c.in-Parted.sides.one_side; start = middle; end = c.args.place.now.end } in (
      zero_place ∷ one_place ∷ [],
      c.in_ok-push-in-Parted-2.ensures.items ∙ ap (λ (l : List Place). l ++ one_place ∷ []) c.in_ok-push-in-Parted.ensures.items
          ∙ append_assoc c.args.lower.now.items (zero_place ∷ []) (one_place ∷ []),
      λ of nonce places outcomes rest is split.
          split-joined of nonce c.args.changes.now c.args.level c.args.place.now zero_place one_place c.part-here.result.now _ _ is c.part-here.ensures
          c.halves.ensures.zeros c.halves.ensures.ones c.halves.ensures.whole refl refl refl c.with_one.ensures refl refl
          (comes-at c.args.changes.now c.args.level c.args.place.now c.part-here.result.now _ _ c.part-here.ensures c.in_ok-node.ensures c.in-Parted.is of nonce is)
          places outcomes rest split,
    )
