use Rattle.std.proofs.Common.{ap, sym, ◌∙◌}
use Rattle.items.specs.Items.{item_of}
use Rattle.items.proofs.Lists.{TakesNext-item, TakesNext-malformed}
use Rattle.items.proofs.listing.next_item.Goals as goal

pub returns-in-Some-item-clause-ok : goal.returns-in-Some-item-clause-ok
returns-in-Some-item-clause-ok g c =
    TakesNext-item _ _ _ _ _ (rw c.in_default.is at c.in_ok-next.ensures.ok) (rw c.in-Some-2.is at c.in_ok-line.ensures.ok) (ap item_of (sym c.bytes.ensures.value) ∙ sym c.item.ensures ∙ c.in-Some-item.is)

pub returns-in-None-clause-ok : goal.returns-in-None-clause-ok
returns-in-None-clause-ok g c =
    TakesNext-malformed _ _ _ _ (rw c.in_default.is at c.in_ok-next.ensures.ok) (rw c.in-Some-2.is at c.in_ok-line.ensures.ok) (ap item_of (sym c.bytes.ensures.value) ∙ sym c.item.ensures ∙ c.in-None.is)
