use Rattle.std.proofs.Common.{◌<◌, [], ◌∙◌, map, slice_index_or, arith, sym}
use Rattle.std.proofs.lemmas.List.{length-map}
use Rattle.sha2.specs.Sha256.{sha256}
use Rattle.lanes.proofs.Places.{mapped-at}
use Rattle.lanes.proofs.TwoBlocks.{sha256_block}
use Rattle.lanes.proofs.digest.of_blocks.Goals as goal

pub returns : goal.returns
returns g c =
    let texts = map (λ message. message.now) c.args.messages.now in
    let long = length-map c.args.messages.now (λ message. message.now) ∙ c.requires.count in
    mapped-at sha256 [] [] texts c.digests.result (c.digests.ensures.len ∙ sym long) (λ k within.
    let below : k < g.row.N = omega (arith, within, long) in
    let m = slice_index_or texts k [] in
    sha256_block m _ _ _ _ (c.requires.whole k below) (c.initial_hash.ensures k below)
    (c.compress-halfway.ensures k m below (c.words_of_blocks.ensures k below)) (c.compress_padding.ensures k below) (c.digests.ensures.lanes k below))
