use Rattle.std.proofs.Common.{◌≡◌, ℕ, ◌+◌, ◌-◌, ◌∙◌, [], ap, take, drop, slice_index_or, arith}
use Rattle.std.proofs.lemmas.List.{length-replicate}
use Rattle.sha2.specs.Sha256.{word_at}
use Rattle.lanes.proofs.Places.{written-next}
use Rattle.lanes.proofs.blocks.load_padded.Goals as goal

pub lanes-init : goal.lanes-init
lanes-init g c = (length-replicate {A = ℕ} g.row.N 0, λ j low. absurd (omega arith))

pub lanes-preserved : goal.lanes-preserved
lanes-preserved g c =
    let text = slice_index_or c.args.texts.now c.lanes.k [] in
    let width : c.args.start + 64 - c.args.start ≡ 64 = omega arith in
    written-next (λ k. word_at (take 64 (drop c.args.start (slice_index_or c.args.texts.now k []))) c.args.i) 0 g.row.N c.lanes.k c.lanes.words _ c.lanes-test.true c.lanes.invariant
    (c.load_be.ensures ∙ ap (λ (n : ℕ). word_at (take n (drop c.args.start text)) c.args.i) width)

pub returns : goal.returns
returns g c k below = c.lanes.invariant.1 k (omega arith)
