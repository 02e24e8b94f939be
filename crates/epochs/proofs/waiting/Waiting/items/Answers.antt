use Rattle.epochs.proofs.Hashed.{in_turn}
use Rattle.epochs.proofs.waiting.Waiting.items.Goals as goal

pub returns : goal.returns
returns c =
    let told = rw (c.in-Some.is, c.in_ok-entries.ensures.entries) at c.placed_within.ensures in
    rw (← c.self.view_is) (in_turn c.self.inside.commitments.entries c.in-Some.items.items told.2 told.0.ascending told.1)
