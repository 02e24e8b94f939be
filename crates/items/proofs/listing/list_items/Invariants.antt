use Rattle.items.proofs.Lists.{IsListedSoFar}
use Rattle.items.proofs.listing.list_items.Given as goal

abbrev pub invariant-loop : goal.invariant-loop
invariant-loop g l = IsListedSoFar (g.R.Read.remaining l.fn.reader) (g.R.Read.remaining l.reader) l.items.items
