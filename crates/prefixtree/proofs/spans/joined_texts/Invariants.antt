use Rattle.std.proofs.Common.{◌≡◌, ◌+◌, ◌++◌, length, drop}
use Rattle.prefixtree.specs.Spans.{counts_of, few_count, joined, many_count, merged}
use Rattle.prefixtree.proofs.spans.joined_texts.Given as goal

abbrev pub invariant-loop-span : goal.invariant-loop-span
invariant-loop-span l = record {
  few : l.few_used + few_count (counts_of (drop l.span-index l.spans)) ≡ length l.few;
  many : l.many_used + many_count (counts_of (drop l.span-index l.spans)) ≡ length l.many;
  grown : l.texts.items ++ joined (merged (counts_of (drop l.span-index l.spans)) (drop l.few_used l.few) (drop l.many_used l.many))
      ≡ joined (merged (counts_of l.spans) l.few l.many);
}
