use Rattle.std.proofs.Common.{◌+◌, [], ◌∙◌, ap, slice_set, arith}
use Rattle.std.proofs.lemmas.List.{length-set}
use Rattle.sha2.specs.Sha256.{sha256}
use Rattle.nodehash.proofs.Groups.{one_written, written}
use Rattle.nodehash.proofs.sha256_hash.digest_texts.Goals as goal

pub returns-then-first-texts : goal.returns-then-first-texts
returns-then-first-texts c =
    let texts = c.args.texts.now in
    written sha256 texts [] (slice_set c.fours.out c.fours.first c.new.result) (c.fours.first + 1)
    (length-set c.fours.out c.fours.first c.new.result ∙ c.fours.invariant.0) (omega (arith, c.fours-test.false))
    (one_written sha256 texts [] c.fours.out c.fours.first c.new.result c.if-first-texts.true c.fours.invariant.0
    (c.new.ensures ∙ c.digest.ensures ∙ ap sha256 (c.bytes.ensures.value ∙ c.text_at.ensures c.if-first-texts.true)) c.fours.invariant.2)

pub returns-else-first-texts : goal.returns-else-first-texts
returns-else-first-texts c = written sha256 c.args.texts.now [] c.fours.out c.fours.first c.fours.invariant.0 c.if-first-texts.false c.fours.invariant.2
