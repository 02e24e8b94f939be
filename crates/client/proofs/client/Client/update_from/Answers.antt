use Rattle.std.proofs.Common.{refl}
use Rattle.client.proofs.client.Client.update_from.Goals as goal

pub returns-then-take_part-clause-updates : goal.returns-then-take_part-clause-updates
returns-then-take_part-clause-updates g c =
    rw (← c.self.view_is, c.if-take_part.ensures.stays) (c.self.inside.chain, rw c.if-take_part.ensures.part.0 (refl, refl, c.if-take_part.ensures.part.1), refl)
