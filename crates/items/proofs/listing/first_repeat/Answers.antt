use Rattle.std.proofs.Common.{sym, ◌∙◌, take, arith}
use Rattle.items.proofs.Repeats.{HasSeen-more, HasSeen-none, distinct_more, distinct_none, first_repeat_at, take_next, was_added, was_there}
use Rattle.items.proofs.listing.first_repeat.Goals as goal

pub loop-place-init : goal.loop-place-init
loop-place-init c = rw c.new-seen.ensures.empty (record { seen = HasSeen-none; distinct = distinct_none })

pub returns-then-not-branch : goal.returns-then-not-branch
returns-then-not-branch c =
    let item = c.index-items-place.result in
    first_repeat_at c.args.items.now c.loop-place.place item (omega arith) c.index-items-place.is c.loop-place.invariant.distinct
    (sym (c.loop-place.invariant.seen item.0) ∙ was_there _ _ c.in_ok-insert.ensures.added c.if-not-branch.true)

pub loop-place-preserved : goal.loop-place-preserved
loop-place-preserved c =
    let item = c.index-items-place.result in
    let front = take c.loop-place.place c.args.items.now in
    let next = take_next c.args.items.now c.loop-place.place item (omega arith) c.index-items-place.is in
    rw next (record {
      seen = HasSeen-more c.loop-place.seen.keys c.insert.new.self.keys front item c.loop-place.invariant.seen c.in_ok-insert.ensures.updates.0;
      distinct = distinct_more front item c.loop-place.invariant.distinct
          (sym (c.loop-place.invariant.seen item.0) ∙ was_added _ _ c.in_ok-insert.ensures.added c.if-not-branch.false);
    })
