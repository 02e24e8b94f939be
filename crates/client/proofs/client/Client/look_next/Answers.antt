use Rattle.std.proofs.Common.{Err, ap, option_copied, refl, subst}
use Rattle.client.specs.Clients.{Client}
use Rattle.client.specs.Looking.{LooksNext}
use Rattle.client.proofs.Keeping.{look-kept, looked-next, refused-next}
use Rattle.client.proofs.client.Client.look_next.Goals.{in-Ok, in-Err}
use Rattle.client.proofs.client.Client.look_next.Goals as goal

pub invariant_of-self : goal.invariant_of-self
invariant_of-self g c =
    let next = (c.after.ensures.next c.in-Some.root.now).0 (ap option_copied c.in-Some.is) in
    let kept = look-kept g.H.NodeHash.digest_of g.V.VufCheck.accepted _ c.args.name.now c.args.bytes.now c.in-Some.root.now c.look_under.new.looks g.S.Verifier.verified
    (next.0, refl) c.self.invariant c.look_under.result c.look_under.ensures.looks in elim c.match-look_under.branch [
      | in-Ok w ↦ rw w.self-inside-is kept
      | in-Err w ↦ rw w.self-inside-is kept
    ]

pub returns-clause-looks : goal.returns-clause-looks
returns-clause-looks g c =
    let next = (c.after.ensures.next c.in-Some.root.now).0 (ap option_copied c.in-Some.is) in elim c.match-look_under.branch [
      | in-Ok w ↦ rw (w.result-is, w.self-inside-is, ← c.self.view_is)
          (looked-next g.H.NodeHash.digest_of g.V.VufCheck.accepted _ c.args.name.now c.args.bytes.now c.in-Some.root.now c.look_under.new.looks c.args.after next w.in-Ok.found w.in-Ok.ensures.looks)
      | in-Err w ↦ rw (w.result-is, w.self-inside-is)
          (subst (λ (before : Client). LooksNext g.H.NodeHash.digest_of g.V.VufCheck.accepted before c.args.name.now c.args.after c.args.bytes.now (Err w.in-Err.why) (record { chain = c.self.inside.chain; looks = c.look_under.new.looks; promises = c.self.inside.promises })) c.self.view_is
          (refused-next g.H.NodeHash.digest_of g.V.VufCheck.accepted _ c.args.name.now c.args.bytes.now c.in-Some.root.now c.look_under.new.looks c.args.after next w.in-Err.why w.in-Err.ensures.looks))
    ]
