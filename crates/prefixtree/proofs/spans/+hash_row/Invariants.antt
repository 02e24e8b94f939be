use Rattle.std.proofs.Common.{◌-◌}
use Rattle.prefixtree.proofs.spans.+hash_row.Given as goal

-- the levels that are left
abbrev pub decreases-hash_row : goal.decreases-hash_row
decreases-hash_row g l = 257 - l.level
