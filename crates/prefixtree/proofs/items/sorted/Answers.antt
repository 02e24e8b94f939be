use Rattle.std.proofs.lemmas.List.Sorted.{IsPermutation-trans}
use Rattle.prefixtree.proofs.Sorting.{distinct_from_ascending, put_all_from_ascending, ascending_from_distinct}
use Rattle.prefixtree.proofs.items.sorted.Goals as goal

pub returns-then-not-ascends : goal.returns-then-not-ascends
returns-then-not-ascends c =
    let order = rw c.deref.ensures.value at c.if-not-ascends.ensures.order in
    λ before was.
    let moved = IsPermutation-trans _ _ _ was c.sort_unstable.ensures.permutation in
    λ distinct. let f = order.1 (ascending_from_distinct before c.sort_unstable.new.self.items moved c.sort_unstable.ensures.sorted distinct) in cc

pub returns : goal.returns
returns c =
    let placement = rw c.deref.ensures.value at (c.ascends.ensures.placement c.if-not-ascends.false) in
    λ before was.
    let moved = IsPermutation-trans _ _ _ was c.sort_unstable.ensures.permutation in
    (placement, put_all_from_ascending before c.sort_unstable.new.self.items moved placement.ascending, distinct_from_ascending before c.sort_unstable.new.self.items moved placement.ascending)
