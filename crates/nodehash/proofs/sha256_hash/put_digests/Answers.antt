use Rattle.std.proofs.Common.{◌≡◌, ℕ, ◌+◌, [], ◌∙◌, length, slice_set, sym, subst, refl, arith, add-zero}
use Rattle.std.proofs.lemmas.List.{length-set}
use Rattle.sha2.specs.Sha256.{sha256}
use Rattle.nodehash.proofs.Groups.{IsDigested, all_written, one_written}
use Rattle.nodehash.proofs.sha256_hash.put_digests.Goals as goal

pub put-init : goal.put-init
put-init c = (refl, λ texts same held is. subst (λ (n : ℕ). IsDigested sha256 texts n c.args.out.now) (sym (add-zero c.args.first)) held)

pub put-preserved : goal.put-preserved
put-preserved c = (
  length-set c.put.out (c.args.first + c.put.k) c.new.result ∙ c.put.invariant.0,
  λ texts same held is.
      let long : length c.put.out ≡ length texts = sym (length-set c.put.out (c.args.first + c.put.k) c.new.result) ∙ same in
      let next : c.args.first + c.put.k + 1 ≡ c.args.first + (c.put.k + 1) = omega arith in
      subst (λ (n : ℕ). IsDigested sha256 texts n (slice_set c.put.out (c.args.first + c.put.k) c.new.result)) next
      (one_written sha256 texts [] c.put.out (c.args.first + c.put.k) c.new.result (omega (arith, long, c.put.invariant.0, c.put-test.true)) long
      (c.new.ensures ∙ is c.put.k (omega (arith, c.put-test.true)) (omega (arith, long, c.put.invariant.0, c.put-test.true)))
      (c.put.invariant.1 texts long held is)),
)

pub returns-clause-digests : goal.returns-clause-digests
returns-clause-digests c texts same held is =
    all_written sha256 texts [] c.put.out (c.args.first + c.put.k) _ (c.put.invariant.0 ∙ same) (omega (arith, same, c.put.auto.k-end, c.put-test.false)) (c.put.invariant.1 texts (c.put.invariant.0 ∙ same) held is)
