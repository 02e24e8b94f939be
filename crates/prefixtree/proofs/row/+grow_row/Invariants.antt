use Rattle.std.proofs.Common.{◌-◌}
use Rattle.prefixtree.proofs.row.+grow_row.Given as goal

-- the levels that are left
abbrev pub decreases-grow_row : goal.decreases-grow_row
decreases-grow_row g l = 257 - l.level
