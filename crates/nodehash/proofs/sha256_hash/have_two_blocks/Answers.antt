use Rattle.std.proofs.Common.{◌≡◌, [], map, slice_index_or, sym, subst, inl, inr, arith}
use Rattle.std.proofs.Math.ListN.{get_or-map}
use Rattle.std.proofs.lemmas.Bool.{cases_lt}
use Rattle.std.proofs.lemmas.List.{length-map}
use Rattle.lanes.specs.TwoBlocks.{HasTwoBlocks}
use Rattle.nodehash.proofs.Groups.{all-from}
use Rattle.nodehash.proofs.sha256_hash.have_two_blocks.Goals as goal

pub loop-text-preserved : goal.loop-text-preserved
loop-text-preserved c k below = elim (cases_lt k c.loop-text.text-index) [
  | inl a ↦ c.loop-text.invariant k a
  | inr b ↦
      let texts = map (λ text. text.now) c.args.texts.now in
      let same : c.loop-text.text-index ≡ k = omega arith in
      subst (λ k. HasTwoBlocks (slice_index_or texts k [])) same
      (subst HasTwoBlocks (sym (get_or-map (λ text. text.now) c.args.texts.now c.loop-text.text-index _)) (c.if-text-lt56.false, c.if-text-ge120.false))
]

pub returns : goal.returns
returns c _ =
    all-from HasTwoBlocks [] (map (λ text. text.now) c.args.texts.now) (λ k below. c.loop-text.invariant k (omega (arith, below, length-map c.args.texts.now (λ text. text.now), c.loop-text-test.false)))
