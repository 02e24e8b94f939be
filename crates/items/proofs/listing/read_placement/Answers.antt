use Rattle.std.proofs.Common.{◌≡◌, ap, sym, ◌∙◌, length}
use Rattle.items.proofs.Placing.{placing-ok, placing-cut, placing-repeat}
use Rattle.items.proofs.listing.read_placement.Goals as goal

pub returns-in_default-clause-err : goal.returns-in_default-clause-err
returns-in_default-clause-err g c =
    let (place, is, repeat) = c.in_ok-repeat_fault.ensures in
    rw is (tt, placing-repeat _ _ _ place c.in_ok-listing.ensures.ok (rw c.deref-in_default.ensures.value at repeat))

pub returns-then-listing-clause-err : goal.returns-then-listing-clause-err
returns-then-listing-clause-err g c =
    let (placement, is, distinct) = rw c.in-Some.is at c.in_ok-items.ensures in
    let count : c.len.result ≡ length c.in_ok-listing.listing.items.items = c.len.ensures ∙ sym c.deref.ensures.len ∙ ap length c.deref.ensures.value in
    rw count (tt, placing-cut _ _ _ c.in_ok-listing.ensures.ok c.if-listing.true (rw c.deref.ensures.value at distinct))

pub returns-clause-ok : goal.returns-clause-ok
returns-clause-ok g c =
    let (placement, is, distinct) = rw c.in-Some.is at c.in_ok-items.ensures in
    placing-ok _ _ _ _ c.in_ok-listing.ensures.ok c.if-listing.false (rw c.deref.ensures.value at distinct) (rw c.deref.ensures.value at is)
