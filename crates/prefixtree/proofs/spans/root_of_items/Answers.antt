use Rattle.prefixtree.proofs.Halves.{under-root}
use Rattle.prefixtree.proofs.spans.root_of_items.Goals as goal

pub hash_at-requires-clause-under : goal.hash_at-requires-clause-under
hash_at-requires-clause-under g c = rw c.new.ensures (under-root c.args.items.now c.requires)
