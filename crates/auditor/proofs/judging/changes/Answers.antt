use Rattle.std.proofs.Common.{ℕ, List, subst}
use Rattle.proofs.specs.Comparisons.{Refuses}
use Rattle.auditor.proofs.Changing.{changed_where, refused_first, refused_later}
use Rattle.auditor.proofs.judging.changes.Goals as goal

pub returns-in_default-clause-value : goal.returns-in_default-clause-value
returns-in_default-clause-value g c = (
  λ never. absurd cc,
  λ is. absurd (refused_first g.H.NodeHash.digest_of g.V.VufCheck.accepted c.args.broken.now.name c.args.broken.now.root.body c.args.broken.now.proof c.args.broken.now.later_root.body c.args.broken.now.later_proof
      c.in_default.field-0 (subst (λ (bytes : List ℕ). Refuses g.H.NodeHash.digest_of g.V.VufCheck.accepted c.args.broken.now.root.body c.args.broken.now.name bytes c.in_default.field-0) c.bytes.ensures.value c.in_default.ensures.refused) is),
)

pub returns-in_default-accept-clause-value : goal.returns-in_default-accept-clause-value
returns-in_default-accept-clause-value g c = (
  λ never. absurd cc,
  λ is. absurd (refused_later g.H.NodeHash.digest_of g.V.VufCheck.accepted c.args.broken.now.name c.args.broken.now.root.body c.args.broken.now.proof c.args.broken.now.later_root.body c.args.broken.now.later_proof
      c.in_default-accept.field-0 (subst (λ (bytes : List ℕ). Refuses g.H.NodeHash.digest_of g.V.VufCheck.accepted c.args.broken.now.later_root.body c.args.broken.now.name bytes c.in_default-accept.field-0) c.bytes-later_bytes.ensures.value c.in_default-accept.ensures.refused) is),
)

pub returns-clause-value : goal.returns-clause-value
returns-clause-value g c =
    changed_where g.H.NodeHash.digest_of g.V.VufCheck.accepted c.args.broken.now.name c.args.broken.now.root.body c.args.broken.now.proof c.args.broken.now.later_root.body c.args.broken.now.later_proof
    c.in-Ok.reply.reply c.in-Ok-accept.later.reply (rw (← c.bytes.ensures.value) c.in-Ok.ensures.accepted) (rw (← c.bytes-later_bytes.ensures.value) c.in-Ok-accept.ensures.accepted) c.is_changed.result c.is_changed.ensures
