use Rattle.std.proofs.Common.{rules, ◌≡◌, ◌∙◌, ap, arith, sym, refl}
use Rattle.std.proofs.lemmas.List.{take_all}
use Rattle.std.proofs.lemmas.Slice.{overwrites}
use Rattle.std.specs.Int.{w32, to_be_bytes}
use Rattle.sha2.specs.Sha256.{digest_bytes}
use Rattle.sha2.proofs.Absorbing256.{digest_more}
use Rattle.lanes.specs.Lanes.{lane}
use Rattle.lanes.proofs.state.digest_of_lane.Goals as goal

pub words-init : goal.words-init
unfolding digest_bytes
words-init g c = (refl, refl)

pub words-preserved : goal.words-preserved
words-preserved g c = (
  search (rules, overwrites),
  digest_more c.words.digest (lane c.args.hash.now c.args.k) _ c.words.i _ c.words.invariant.1 (omega arith)
      (c.copy_from_slice.ensures.after ∙ c.to_be_bytes.ensures ∙ ap (to_be_bytes w32) c.word.ensures),
)

pub returns : goal.returns
returns g c =
    let done : c.words.i ≡ 8 = omega arith in
    sym (take_all 32 c.words.digest (omega arith)) ∙ rw done at c.words.invariant.1
