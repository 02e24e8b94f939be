use Rattle.std.proofs.Common.{◌-◌}
use Rattle.prefixtree.proofs.build.+grow.Given as goal

-- the levels that are left
abbrev pub decreases-grow : goal.decreases-grow
decreases-grow g l = 256 - l.level
