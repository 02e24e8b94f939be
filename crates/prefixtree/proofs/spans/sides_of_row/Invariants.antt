use Rattle.std.proofs.Common.{◌≡◌, ◌+◌, ◌++◌, map, drop}
use Rattle.prefixtree.specs.Spans.{few_texts, many_sites, sides_of, site_of, AreSpans}
use Rattle.prefixtree.proofs.spans.sides_of_row.Given as goal

abbrev pub invariant-loop-span : goal.invariant-loop-span
invariant-loop-span l = record {
  left : AreSpans l.level l.items (drop l.span-index l.spans);
  spans : AreSpans (l.level + 1) l.items l.sides.many.items;
  few : l.sides.few.items ++ few_texts l.nonce (l.level + 1) (sides_of l.level l.items (drop l.span-index l.spans))
      ≡ few_texts l.nonce (l.level + 1) (sides_of l.level l.items l.spans);
  many : map (site_of l.items) l.sides.many.items ++ many_sites (sides_of l.level l.items (drop l.span-index l.spans))
      ≡ many_sites (sides_of l.level l.items l.spans);
}
