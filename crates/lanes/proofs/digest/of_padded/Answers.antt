use Rattle.std.proofs.Common.{◌≡◌, ◌<◌, [], ◌∙◌, length, map, slice_index_or, ap, arith, sym, subst, refl}
use Rattle.std.proofs.Math.ListN.{get_or-map}
use Rattle.std.proofs.lemmas.List.{length-map, length-replicate}
use Rattle.sha2.specs.Sha256.{padded_message, sha256}
use Rattle.lanes.specs.TwoBlocks.{HasTwoBlocks}
use Rattle.lanes.proofs.Places.{mapped-at, written-next}
use Rattle.lanes.proofs.TwoBlocks.{length-padded, sha256_two_blocks}
use Rattle.lanes.proofs.digest.of_padded.Goals as goal

pub pad-init : goal.pad-init
pad-init g c = (length-replicate g.row.N _, λ j low. absurd (omega arith))

pub padded-requires : goal.padded-requires
padded-requires g c =
    subst HasTwoBlocks (get_or-map (λ message. message.now) c.args.messages.now c.pad.k _) (c.requires.two_blocks c.pad.k c.pad-test.true)

pub pad-preserved : goal.pad-preserved
pad-preserved g c =
    written-next (λ k. padded_message (slice_index_or (map (λ message. message.now) c.args.messages.now) k [])) [] g.row.N c.pad.k c.pad.texts _ c.pad-test.true c.pad.invariant
    (c.padded.ensures.value ∙ ap padded_message (sym (get_or-map (λ message. message.now) c.args.messages.now c.pad.k _)))

pub returns : goal.returns
returns g c =
    let texts = map (λ message. message.now) c.args.messages.now in
    let long = length-map c.args.messages.now (λ message. message.now) ∙ c.requires.count in
    mapped-at sha256 [] [] texts c.digests.result (c.digests.ensures.len ∙ sym long) (λ k within.
    let below : k < g.row.N = omega (arith, within, long) in
    let m = slice_index_or texts k [] in
    let p = slice_index_or c.pad.texts k [] in
    let is : p ≡ padded_message m = c.pad.invariant.1 k (omega (arith, below, c.pad-test.false)) in
    sha256_two_blocks m p _ _ _ _ _ _ is (ap length is ∙ length-padded m (c.requires.two_blocks k below)) (c.initial_hash.ensures k below) refl refl
    (c.compress-halfway.ensures k _ below (c.words_of_padded.ensures k below)) (c.compress.ensures k _ below (c.words_of_padded-2.ensures k below)) (c.digests.ensures.lanes k below))
