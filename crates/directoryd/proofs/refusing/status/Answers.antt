use Rattle.std.proofs.Common.{rules}
use Rattle.directoryd.proofs.Statuses.{is_two}
use Rattle.directoryd.proofs.refusing.status.Goals as goal

pub returns-then-use_stderr : goal.returns-then-use_stderr
returns-then-use_stderr c = let shown = c.use_stderr.ensures.0 (search rules) in is_two _ shown.0 shown.1
