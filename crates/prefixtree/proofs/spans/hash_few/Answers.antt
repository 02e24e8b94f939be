use Rattle.std.proofs.Common.{◌∙◌, ℕ, length, ap, arith}
use Rattle.nodehash.specs.Digests.{after_digests}
use Rattle.prefixtree.proofs.spans.hash_few.Goals as goal

pub returns-in_err-digests_of_texts-clause-work : goal.returns-in_err-digests_of_texts-clause-work
returns-in_err-digests_of_texts-clause-work g c = omega (arith, c.digests_of_texts.ensures.work, ap length (c.deref.ensures.value ∙ c.in_ok-sides.ensures.few))

pub returns-clause-work : goal.returns-clause-work
returns-clause-work g c = omega (arith, c.digests_of_texts.ensures.work, ap length (c.deref.ensures.value ∙ c.in_ok-sides.ensures.few))

pub returns-clause-exact : goal.returns-clause-exact
returns-clause-exact g c =
    c.in_ok-digests_of_texts.ensures.exact ∙ ap (λ (n : ℕ). after_digests n (g.H.NodeHash.digests c.args.hash.now)) (ap length (c.deref.ensures.value ∙ c.in_ok-sides.ensures.few))
