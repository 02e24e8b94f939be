use Rattle.std.proofs.Common.{◌≡◌, ◌+◌, [], ◌∙◌, subst, arith}
use Rattle.sha2.specs.Sha256.{sha256}
use Rattle.nodehash.proofs.Groups.{IsDigested, all_written, puts-eight}
use Rattle.nodehash.proofs.sha256_hash.digest_eight.Goals as goal

pub returns-then-first-texts-clause-digests : goal.returns-then-first-texts-clause-digests
returns-then-first-texts-clause-digests c held =
    let both : c.args.first + 4 + 4 ≡ c.args.first + 8 = omega arith in
    subst (λ n. IsDigested sha256 c.args.texts.now n c.digest_four-then-first-texts.new.out) both
    (c.digest_four-then-first-texts.ensures.digests (c.digest_four.ensures.digests held))

pub returns-else-first-texts-clause-digests : goal.returns-else-first-texts-clause-digests
returns-else-first-texts-clause-digests c held =
    all_written sha256 c.args.texts.now [] c.digest_four.new.out (c.args.first + 4) (c.args.first + 8) (c.digest_four.ensures.len ∙ c.requires.sizes)
    (omega (arith, c.if-first-texts.false)) (c.digest_four.ensures.digests held)

pub returns-then-have_two_blocks-clause-digests : goal.returns-then-have_two_blocks-clause-digests
returns-then-have_two_blocks-clause-digests c held =
    puts-eight sha256 [] [] c.args.texts.now c.args.first c.put_digests.new.out c.sha256_eight.result _ _ _ _ _ _ _ _ c.sha256_eight.ensures
    (λ lt. c.bytes.ensures.value ∙ c.text_at.ensures lt) (λ lt. c.bytes-2.ensures.value ∙ c.text_at-2.ensures lt)
    (λ lt. c.bytes-3.ensures.value ∙ c.text_at-3.ensures lt) (λ lt. c.bytes-4.ensures.value ∙ c.text_at-4.ensures lt)
    (λ lt. c.bytes-5.ensures.value ∙ c.text_at-5.ensures lt) (λ lt. c.bytes-6.ensures.value ∙ c.text_at-6.ensures lt)
    (λ lt. c.bytes-7.ensures.value ∙ c.text_at-7.ensures lt) (λ lt. c.bytes-8.ensures.value ∙ c.text_at-8.ensures lt)
    (c.put_digests.ensures.digests c.args.texts.now c.requires.sizes held)
