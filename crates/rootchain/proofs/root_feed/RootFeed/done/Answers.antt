use Rattle.rootchain.proofs.RootFeeds.{held-few}
use Rattle.rootchain.proofs.root_feed.RootFeed.done.Goals as goal

pub returns-in-Roots-eq0-clause-held : goal.returns-in-Roots-eq0-clause-held
returns-in-Roots-eq0-clause-held c = rw (← c.self.view_is) (held-few _ c.self.invariant)

pub returns-in_default-clause-held : goal.returns-in_default-clause-held
returns-in_default-clause-held c = rw (← c.self.view_is) (held-few _ c.self.invariant)
