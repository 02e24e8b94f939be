use Rattle.std.proofs.Common.{◌∙◌, ℕ, List, ap, subst}
use Rattle.proofs.specs.BrokenFinals.{states_final}
use Rattle.proofs.specs.Comparisons.{Refuses}
use Rattle.asking.proofs.FinalsShown.{accepts-final, refused-no-final}
use Rattle.asking.proofs.finals.is_final_under.Goals as goal

pub returns-in-Ok : goal.returns-in-Ok
returns-in-Ok g c =
    accepts-final g.H.NodeHash.digest_of g.V.VufCheck.accepted c.args.root.now.body c.args.seen.now.name c.args.seen.now.reply c.in-Ok.reply.reply
    (rw (← c.bytes.ensures.value) c.in-Ok.ensures.accepted) c.is_final.result (c.is_final.ensures ∙ ap states_final c.statement.ensures.value)

pub returns-in-Err : goal.returns-in-Err
returns-in-Err g c = (
  λ never. absurd cc,
  λ final. absurd (refused-no-final g.H.NodeHash.digest_of g.V.VufCheck.accepted c.args.root.now.body c.args.seen.now.name c.args.seen.now.reply c.in-Err.field-0
      (subst (λ (bytes : List ℕ). Refuses g.H.NodeHash.digest_of g.V.VufCheck.accepted c.args.root.now.body c.args.seen.now.name bytes c.in-Err.field-0) c.bytes.ensures.value c.in-Err.ensures.refused) final),
)
