use Rattle.std.proofs.Common.{ap, option_copied, subst}
use Rattle.client.specs.Clients.{Client}
use Rattle.client.specs.Looking.{Looks}
use Rattle.client.proofs.Keeping.{asked-epoch, look-kept, looked}
use Rattle.client.proofs.client.Client.look.Goals as goal

pub invariant_of-self : goal.invariant_of-self
invariant_of-self g c =
    let asked = (c.asked.ensures c.in-Some.root.now).0 (ap option_copied c.in-Some.is) in
    look-kept g.H.NodeHash.digest_of g.V.VufCheck.accepted _ c.args.name.now c.args.bytes.now c.in-Some.root.now c.look_under.new.looks g.S.Verifier.verified
    (asked-epoch c.self.inside.chain c.args.epoch c.in-Some.root.now asked) c.self.invariant c.look_under.result c.look_under.ensures.looks

pub returns-clause-looks : goal.returns-clause-looks
returns-clause-looks g c =
    let asked = (c.asked.ensures c.in-Some.root.now).0 (ap option_copied c.in-Some.is) in
    subst (λ (before : Client). Looks g.H.NodeHash.digest_of g.V.VufCheck.accepted before c.args.name.now c.args.epoch c.args.bytes.now c.look_under.result (record { chain = c.self.inside.chain; looks = c.look_under.new.looks; promises = c.self.inside.promises })) c.self.view_is
    (looked g.H.NodeHash.digest_of g.V.VufCheck.accepted _ c.args.name.now c.args.bytes.now c.in-Some.root.now c.look_under.new.looks c.args.epoch asked c.look_under.result c.look_under.ensures.looks)
