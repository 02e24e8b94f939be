use Rattle.std.proofs.Common.{◌∙◌}
use Rattle.epochs.proofs.Hashed.{some_in_order}
use Rattle.epochs.proofs.waiting.Waiting.contains.Goals as goal

pub returns : goal.returns
returns c = rw (← c.self.view_is) (c.contains_key.ensures ∙ some_in_order c.args.index.now c.self.inside.commitments.entries)
