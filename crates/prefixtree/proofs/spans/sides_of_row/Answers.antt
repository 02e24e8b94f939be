use Rattle.std.proofs.Common.{◌≡◌, ℕ, List, [], ◌+◌, drop, map, arith, sym, subst, ◌∙◌}
use Rattle.std.proofs.lemmas.List.{append-nil, drop_all}
use Rattle.prefixtree.specs.Spans.{part, site_of}
use Rattle.prefixtree.specs.Under.{IsUnder}
use Rattle.prefixtree.proofs.SpanRows.{front_of, two-more, under-one_side, under-zero_side}
use Rattle.prefixtree.proofs.spans.sides_of_row.Goals as goal

pub push_side-requires : goal.push_side-requires
push_side-requires c =
    let i = c.loop-span.span-index in
    let span = c.span-item.result in
    let from = front_of c.args.spans.now i span (omega arith) c.span-item.is in
    let is = (rw from at c.loop-span.invariant.left).0 in
    record {
      level = omega (arith, c.requires.level);
      within = omega (arith, is.within);
      under = under-zero_side c.args.level c.args.items.now span c.requires.level is;
      spans = c.loop-span.invariant.spans;
    }

pub push_side-requires-in-loop-span : goal.push_side-requires-in-loop-span
push_side-requires-in-loop-span c =
    let i = c.loop-span.span-index in
    let span = c.span-item.result in
    let from = front_of c.args.spans.now i span (omega arith) c.span-item.is in
    let is = (rw from at c.loop-span.invariant.left).0 in
    record {
      level = omega (arith, c.requires.level);
      within = omega (arith, is.within);
      under = subst (λ (p : List ℕ). IsUnder p (c.args.level + 1) (part c.args.items.now (span.start + span.zeros) span.ones)) (sym c.with_one-one_prefix.ensures)
          (under-one_side c.args.level c.args.items.now span c.requires.level is);
      spans = c.in_ok-push_side.ensures.spans;
    }

pub loop-span-preserved : goal.loop-span-preserved
loop-span-preserved c =
    let i = c.loop-span.span-index in
    let span = c.span-item.result in
    let from = front_of c.args.spans.now i span (omega arith) c.span-item.is in
    record {
      left = (rw from at c.loop-span.invariant.left).1;
      spans = c.in_ok-push_side-2.ensures.spans;
      few = two-more c.loop-span.sides.few.items c.push_side.new.sides.few.items c.push_side-in-loop-span.new.sides.few.items _ _ _ _
          c.in_ok-push_side.ensures.few (rw c.with_one-one_prefix.ensures at c.in_ok-push_side-2.ensures.few) (rw from at c.loop-span.invariant.few);
      many = two-more (map (site_of c.args.items.now) c.loop-span.sides.many.items) (map (site_of c.args.items.now) c.push_side.new.sides.many.items)
          (map (site_of c.args.items.now) c.push_side-in-loop-span.new.sides.many.items) _ _ _ _
          c.in_ok-push_side.ensures.many (rw c.with_one-one_prefix.ensures at c.in_ok-push_side-2.ensures.many) (rw from at c.loop-span.invariant.many);
    }

pub returns-clause-few : goal.returns-clause-few
returns-clause-few c =
    let end : drop c.loop-span.span-index c.args.spans.now ≡ [] = drop_all c.loop-span.span-index c.args.spans.now c.loop-span-test.false in
    sym (append-nil c.loop-span.sides.few.items) ∙ (rw end at c.loop-span.invariant.few)

pub returns-clause-many : goal.returns-clause-many
returns-clause-many c =
    let end : drop c.loop-span.span-index c.args.spans.now ≡ [] = drop_all c.loop-span.span-index c.args.spans.now c.loop-span-test.false in
    sym (append-nil (map (site_of c.args.items.now) c.loop-span.sides.many.items)) ∙ (rw end at c.loop-span.invariant.many)
