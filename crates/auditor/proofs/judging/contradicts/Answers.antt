use Rattle.std.proofs.Common.{◌≡◌, ◌↔◌, IsTrue, Some, ◌∙◌, refl, sym}
use Rattle.proofs.specs.Accepts.{stated}
use Rattle.rootchain.proofs.Chains.{same-hashes}
use Rattle.auditor.proofs.Contradicting.{against_unless, other_never, refused_never}
use Rattle.auditor.proofs.judging.contradicts.Goals as goal

pub returns-then-eq-clause-value : goal.returns-then-eq-clause-value
returns-then-eq-clause-value g c =
    let is : IsTrue c.binds.result ↔ (stated c.in-Ok.reply.reply.end ≡ Some c.args.promise.now.key) = rw (← c.statement.ensures.value) c.binds.ensures in
    against_unless g.H.NodeHash.digest_of g.V.VufCheck.accepted c.args.promise.now c.args.body.now c.args.bytes.now c.in-Ok.reply.reply c.in-Ok.ensures.accepted
    (sym c.index.ensures ∙ (same-hashes c.eq.result c.index.result c.args.promise.now.index c.args.promise.now.index c.eq.ensures refl).0 c.if-eq.true)
    c.binds.result is

pub returns-else-eq-clause-value : goal.returns-else-eq-clause-value
returns-else-eq-clause-value g c = (
  λ is. let no : c.eq.result ≡ _ = c.if-eq.false in absurd cc,
  λ against. absurd (other_never g.H.NodeHash.digest_of g.V.VufCheck.accepted c.args.promise.now c.args.body.now c.args.bytes.now c.in-Ok.reply.reply c.in-Ok.ensures.accepted
      (λ same. let yes = (same-hashes c.eq.result c.index.result c.args.promise.now.index c.args.promise.now.index c.eq.ensures refl).1 (c.index.ensures ∙ same) in let no = c.if-eq.false in cc) against),
)

pub returns-in-Err-clause-value : goal.returns-in-Err-clause-value
returns-in-Err-clause-value g c = (
  λ never. absurd cc,
  λ against. absurd (refused_never g.H.NodeHash.digest_of g.V.VufCheck.accepted c.args.promise.now c.args.body.now c.args.bytes.now c.in-Err.field-0 c.in-Err.ensures.refused against),
)
