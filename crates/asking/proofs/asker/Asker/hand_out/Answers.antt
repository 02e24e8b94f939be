use Rattle.std.proofs.Common.{◌≡◌, ◌∙◌, ◌-◌, List, Some, ap, length, subst, sym}
use Rattle.std.specs.Prelude.{slice_get}
use Rattle.std.specs.Vec.{with_items}
use Rattle.std.proofs.lemmas.List.{with_items_is}
use Rattle.rootchain.specs.declared.signed_promise.SignedPromise.{SignedPromise}
use Rattle.monitor.specs.Monitors.{Monitor}
use Rattle.asking.proofs.Handed.{hands_last, report_silent}
use Rattle.asking.proofs.asker.Asker.hand_out.Goals as goal

pub returns-in_ok-hand_to-in-Some-clause-hands : goal.returns-in_ok-hand_to-in-Some-clause-hands
returns-in_ok-hand_to-in-Some-clause-hands g c =
    let old : c.deref_mut.result.now ≡ c.args.self.now.monitors.items = c.deref_mut.ensures.value in
    let long : length c.hand_to.new.monitors ≡ c.args.self.now.monitors.len = c.hand_to.auto.monitors ∙ ap (λ (ms : List Monitor). length ms) old ∙ sym c.args.self.now.monitors.ok.0 in
    let last : slice_get c.args.self.now.client.promises (length c.args.self.now.client.promises - 1) ≡ Some c.in-Some.signed.now =
    subst (λ (all : List SignedPromise). slice_get all (length all - 1) ≡ Some c.in-Some.signed.now) c.promises.ensures.value (sym c.in-Some.ensures.value) in
    hands_last g.H.NodeHash.digest_of g.V.VufCheck.accepted g.S.Verifier.verified c.join.result (slice_get c.args.self.now.client.promises (length c.args.self.now.client.promises - 1))
    c.in-Some.signed.now c.args.promise.now c.args.self.now.monitors.items c.deref_mut.result.now c.hand_to.new.monitors (with_items c.args.self.now.monitors c.hand_to.new.monitors).items
    c.new-now.result c.hand_to.new.said c.args.said.now c.join.new.self last old
    (with_items_is c.args.self.now.monitors c.hand_to.new.monitors long) (report_silent c.new-now.result c.new-now.ensures.text c.new-now.ensures.status) c.in_ok-hand_to-in-Some.ensures c.join.ensures.tells
