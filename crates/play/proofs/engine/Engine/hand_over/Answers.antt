use Rattle.std.proofs.Common.{ap, inr, rules}
use Rattle.play.specs.Parties.{Parties}
use Rattle.play.proofs.Sessions.{heard}
use Rattle.play.proofs.engine.Engine.hand_over.Goals as goal

pub returns : goal.returns
returns g c =
    let first = rw c.get.ensures.value at c.in_ok-happen.ensures in
    let then_comes = rw c.get-2.ensures.value at c.in_ok-happen-2.ensures in
    let well = rw (ap (λ (parties : Parties g.row.R.Denot). parties.hub.service) c.self.view_is) at c.head.ensures.well in
    let well_after = rw (ap (λ (parties : Parties g.row.R.Denot). parties.hub.service) c.self-2.view_is) at c.head-2.ensures.well in
    heard g.H.NodeHash.digest_of g.V.Vuf.value_of g.S.Signer.signature_of g.R.Rng.stream g.V.VufCheck.accepted g.S.Verifier.verified
    c.args.self.now c.happen.new.self c.happen-2.new.self _ c.args.piece.now c.new-output.result.items c.happen.new.output.items c.happen-2.new.output.items
    (search rules) c.requires.ready.bytes c.new-output.ensures.items first then_comes well well_after
    (λ lines answered. c.replies_are_honest.ensures _ _ lines well (inr well_after) answered)
