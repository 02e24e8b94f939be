use Rattle.client.proofs.several.Several.is_changed.Goals as goal

pub returns : goal.returns
returns c = rw (← c.self.view_is) c.self.invariant.changed
