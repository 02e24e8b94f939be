use Rattle.prefixtree.proofs.Sorting.{distinct_from_ascending, put_all_from_ascending}
use Rattle.prefixtree.proofs.items.placed_within.Goals as goal

pub returns-then-ascends : goal.returns-then-ascends
returns-then-ascends c =
    let moved = c.sort_unstable_by_key.ensures.permutation in
    let placement = rw c.deref.ensures.value at (c.ascends.ensures.placement c.if-ascends.true) in
    (placement, put_all_from_ascending c.args.items.items c.sort_unstable_by_key.new.self.items moved placement.ascending, distinct_from_ascending c.args.items.items c.sort_unstable_by_key.new.self.items moved placement.ascending)

pub returns : goal.returns
returns c = c.sorted.ensures c.args.items.items c.sort_unstable_by_key.ensures.permutation
