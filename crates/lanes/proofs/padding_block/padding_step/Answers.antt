use Rattle.std.proofs.Common.{ℕ, List, ◌∙◌, sym, ap, slice_index}
use Rattle.sha2.specs.Sha256.{round, round_constants}
use Rattle.sha2.proofs.Schedule256.{rounds_next}
use Rattle.lanes.specs.TwoBlocks.{padding_words}
use Rattle.lanes.proofs.padding_block.padding_step.Goals as goal

pub returns : goal.returns
returns g c k h below held =
    let key : ℕ = slice_index round_constants c.args.t in
    let word : ℕ = slice_index padding_words c.args.t in
    c.round.ensures k key word below (c.every.ensures k below ∙ c.padding_key.ensures)
    ∙ ap (λ (v : List ℕ). round v key word) held ∙ sym (rounds_next h padding_words c.args.t)
