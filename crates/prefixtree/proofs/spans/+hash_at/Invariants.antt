use Rattle.std.proofs.Common.{◌-◌}
use Rattle.prefixtree.proofs.spans.+hash_at.Given as goal

-- the levels that are left
abbrev pub decreases-hash_at : goal.decreases-hash_at
decreases-hash_at g l = 256 - l.level
