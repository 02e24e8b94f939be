use Rattle.std.proofs.Common.{ℕ, List, [], ◌+◌, ◌≤◌, ◌∙◌, length, map, slice_index_or, ap, sym, subst, arith}
use Rattle.std.proofs.Math.ListN.{get_or-map}
use Rattle.std.proofs.lemmas.List.{length-replicate}
use Rattle.sha2.specs.Sha256.{word_at}
use Rattle.lanes.proofs.Places.{written-next}
use Rattle.lanes.proofs.blocks.load.Goals as goal

pub lanes-init : goal.lanes-init
lanes-init g c = (length-replicate {A = ℕ} g.row.N 0, λ j low. absurd (omega arith))

pub load_be-requires : goal.load_be-requires
load_be-requires g c =
    subst (λ (b : List ℕ). c.args.i + 4 ≤ length b) (get_or-map (λ block. block.now) c.args.blocks.now c.lanes.k _) (c.requires.within c.lanes.k c.lanes-test.true)

pub lanes-preserved : goal.lanes-preserved
lanes-preserved g c =
    written-next (λ k. word_at (slice_index_or (map (λ block. block.now) c.args.blocks.now) k []) c.args.i) 0 g.row.N c.lanes.k c.lanes.words _ c.lanes-test.true c.lanes.invariant
    (c.load_be.ensures ∙ ap (λ (b : List ℕ). word_at b c.args.i) (sym (get_or-map (λ block. block.now) c.args.blocks.now c.lanes.k _)))

pub returns : goal.returns
returns g c k below = c.lanes.invariant.1 k (omega arith)
