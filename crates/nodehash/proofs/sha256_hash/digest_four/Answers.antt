use Rattle.std.proofs.Common.{[], ◌∷◌, ◌∙◌}
use Rattle.sha2.specs.Sha256.{sha256}
use Rattle.nodehash.proofs.Groups.{puts-four}
use Rattle.nodehash.proofs.sha256_hash.digest_four.Goals as goal

pub returns-then-have_two_blocks-clause-digests : goal.returns-then-have_two_blocks-clause-digests
returns-then-have_two_blocks-clause-digests c held =
    puts-four sha256 [] [] c.args.texts.now c.args.first c.put_digests.new.out c.sha256_four.result _ _ _ _ c.sha256_four.ensures
    (λ lt. c.bytes-a.ensures.value ∙ c.text_at.ensures lt) (λ lt. c.bytes-b.ensures.value ∙ c.text_at-2.ensures lt)
    (λ lt. c.bytes-c.ensures.value ∙ c.text_at-3.ensures lt) (λ lt. c.bytes-d.ensures.value ∙ c.text_at-4.ensures lt)
    (c.put_digests.ensures.digests c.args.texts.now c.requires.sizes held)

pub returns-else-have_two_blocks-clause-digests : goal.returns-else-have_two_blocks-clause-digests
returns-else-have_two_blocks-clause-digests c held =
    puts-four sha256 [] [] c.args.texts.now c.args.first c.put_digests-else-have_two_blocks.new.out _ _ _ _ _
    (λ i. c.digest.ensures i ∷ c.digest-else-have_two_blocks.ensures i ∷ c.digest-else-have_two_blocks-2.ensures i ∷ c.digest-else-have_two_blocks-3.ensures i ∷ [])
    (λ lt. c.bytes-a.ensures.value ∙ c.text_at.ensures lt) (λ lt. c.bytes-b.ensures.value ∙ c.text_at-2.ensures lt)
    (λ lt. c.bytes-c.ensures.value ∙ c.text_at-3.ensures lt) (λ lt. c.bytes-d.ensures.value ∙ c.text_at-4.ensures lt)
    (c.put_digests-else-have_two_blocks.ensures.digests c.args.texts.now c.requires.sizes held)
