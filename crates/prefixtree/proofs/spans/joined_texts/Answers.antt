use Rattle.std.proofs.Common.{◌≡◌, ℕ, List, [], ◌++◌, ◌+◌, drop, arith, sym, ap, ◌∙◌}
use Rattle.std.proofs.lemmas.List.{append-nil, drop_all}
use Rattle.prefixtree.specs.Spans.{counts_of, joined, merged}
use Rattle.prefixtree.proofs.SpanRows.{front_of, joined-next}
use Rattle.prefixtree.proofs.spans.joined_texts.Goals as goal

pub pick-zero_side-requires : goal.pick-zero_side-requires
pick-zero_side-requires c =
    let i = c.loop-span.span-index in
    let span = c.span-item.result in
    let from = front_of c.args.spans.now i span (omega arith) c.span-item.is in
    record { few = omega (arith, rw from at c.loop-span.invariant.few); many = omega (arith, rw from at c.loop-span.invariant.many) }

pub pick-one_side-requires : goal.pick-one_side-requires
pick-one_side-requires c =
    let i = c.loop-span.span-index in
    let span = c.span-item.result in
    let from = front_of c.args.spans.now i span (omega arith) c.span-item.is in
    record {
      few = omega (arith, rw from at c.loop-span.invariant.few, c.few_of-few_used.ensures);
      many = omega (arith, rw from at c.loop-span.invariant.many, c.many_of-many_used.ensures);
    }

pub loop-span-preserved : goal.loop-span-preserved
loop-span-preserved c =
    let i = c.loop-span.span-index in
    let span = c.span-item.result in
    let from = front_of c.args.spans.now i span (omega arith) c.span-item.is in
    let rest : List ℕ = counts_of (drop (i + 1) c.args.spans.now) in
    let few_used : ℕ = c.loop-span.few_used + c.few_of-few_used.result + c.few_of-few_used-in-loop-span.result in
    let many_used : ℕ = c.loop-span.many_used + c.many_of-many_used.result + c.many_of-many_used-in-loop-span.result in
    record {
      few = omega (arith, rw from at c.loop-span.invariant.few, c.few_of-few_used.ensures, c.few_of-few_used-in-loop-span.ensures);
      many = omega (arith, rw from at c.loop-span.invariant.many, c.many_of-many_used.ensures, c.many_of-many_used-in-loop-span.ensures);
      grown = ap (λ (l : List (List ℕ)). l ++ joined (merged rest (drop few_used c.args.few.now) (drop many_used c.args.many.now))) c.in_ok-push.ensures.items
          ∙ joined-next c.loop-span.texts.items span.zeros span.ones rest c.args.few.now c.args.many.now _ c.loop-span.few_used c.loop-span.many_used _ _ _ _ _ _ _
          (ap (λ (n : ℕ). c.loop-span.few_used + n) c.few_of-few_used.ensures) (ap (λ (n : ℕ). c.loop-span.many_used + n) c.many_of-many_used.ensures)
          (ap (λ (n : ℕ). c.loop-span.few_used + c.few_of-few_used.result + n) c.few_of-few_used-in-loop-span.ensures)
          (ap (λ (n : ℕ). c.loop-span.many_used + c.many_of-many_used.result + n) c.many_of-many_used-in-loop-span.ensures)
          c.pick-zero_side.ensures c.pick-one_side.ensures c.interior_text.ensures.value (rw from at c.loop-span.invariant.grown);
    }

pub returns : goal.returns
returns c =
    let end : drop c.loop-span.span-index c.args.spans.now ≡ [] = drop_all c.loop-span.span-index c.args.spans.now c.loop-span-test.false in
    sym (append-nil c.loop-span.texts.items) ∙ (rw end at c.loop-span.invariant.grown)
