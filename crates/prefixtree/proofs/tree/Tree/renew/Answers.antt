use Rattle.std.specs.List.Sorted.{IsStrictlySortedBy}
use Rattle.prefixtree.proofs.tree.Tree.renew.Goals as goal

pub renew_with_all-requires : goal.renew_with_all-requires
unfolding IsStrictlySortedBy
renew_with_all-requires g c = record { ascending = tt; indices = tt }
