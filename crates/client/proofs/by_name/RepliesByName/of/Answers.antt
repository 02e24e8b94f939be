use Rattle.std.proofs.Common.{◌∙◌}
use Rattle.client.proofs.ByNames.{at-keyed}
use Rattle.client.proofs.by_name.RepliesByName.of.Goals as goal

pub returns : goal.returns
returns c = rw (← c.self.view_is) (rw c.bytes.ensures.value at c.get.ensures.value ∙ at-keyed (λ key. key.items) c.args.name.now c.self.inside.lists.entries)
