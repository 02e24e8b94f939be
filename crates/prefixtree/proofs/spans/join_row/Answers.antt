use Rattle.std.proofs.Common.{◌≡◌, ◌∙◌, ℕ, length, ap, arith}
use Rattle.std.proofs.lemmas.Result.{on_ok_weaker}
use Rattle.nodehash.specs.Digests.{after_digests}
use Rattle.prefixtree.proofs.SpanRows.{length-joined}
use Rattle.prefixtree.proofs.spans.join_row.Goals as goal

pub returns-clause-work : goal.returns-clause-work
returns-clause-work g c =
    let long = ap length (c.deref.ensures.value ∙ c.in_ok-texts.ensures) ∙ length-joined c.args.spans.now c.args.few.now c.args.many.now in
    omega (arith, c.digests_of_texts.ensures.work, long)

pub returns-clause-exact : goal.returns-clause-exact
returns-clause-exact g c =
    let long = ap length (c.deref.ensures.value ∙ c.in_ok-texts.ensures) ∙ length-joined c.args.spans.now c.args.few.now c.args.many.now in
    let count = g.H.NodeHash.digests in
    on_ok_weaker c.digests_of_texts.result (λ (made : count c.digests_of_texts.new.hash ≡ after_digests (length c.deref.result.now) (count c.args.hash.now)).
    made ∙ ap (λ (n : ℕ). after_digests n (count c.args.hash.now)) long)
    c.digests_of_texts.ensures.exact
