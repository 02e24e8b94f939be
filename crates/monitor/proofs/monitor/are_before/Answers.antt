use Rattle.std.proofs.Common.{rules}
use Rattle.monitor.proofs.Expected.{all-before}
use Rattle.monitor.proofs.monitor.are_before.Goals as goal

pub returns : goal.returns
returns c = all-before c.args.changes.now c.args.epoch c.promised_before.result _ c.promised_before.ensures.point c.promised_before.ensures.within (search rules)
