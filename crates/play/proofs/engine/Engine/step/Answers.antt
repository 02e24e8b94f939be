use Rattle.std.proofs.Common.{ap, subst, sym, ◌∙◌, ◌≡◌, IfOk, Some, slice_get, slice_set, ℕ, List}
use Rattle.encoding.specs.Limits.{IsName}
use Rattle.commands.specs.Operations.{Lookup}
use Rattle.wire.specs.Requests.{Query}
use Rattle.play.specs.Parties.{Parties, HasAsked}
use Rattle.play.specs.Steps.{HasStepped, Watches}
use Rattle.std.proofs.lemmas.Result.{IfOk-weaker}
use Rattle.std.proofs.lemmas.Option.{get_or_from_slice_get}
use Rattle.monitor.specs.Monitors.{Monitor, IsNext}
use Rattle.play.proofs.Stepped.{has-stepped}
use Rattle.play.proofs.engine.Engine.step.Goals as goal

pub watch_epoch-requires : goal.watch_epoch-requires
watch_epoch-requires g c =
    let (watching, own, (root, next, at)) = c.requires.next in
    let there : slice_get c.self-2.inside.monitors.items c.args.place ≡ Some watching
    = ap (λ parties. slice_get parties.monitors c.args.place) c.self-2.view_is ∙ ap (λ parties. slice_get parties.monitors c.args.place) c.in_ok-reply.ensures.asked.others ∙ own in
    let same : c.index_mut.result.now ≡ watching = c.index_mut.ensures.value ∙ get_or_from_slice_get c.self-2.inside.monitors.items c.args.place watching c.index_mut.result.now there in
    (root, subst (λ (m : Monitor). IsNext m root) (sym same) next)

pub returns : goal.returns
returns g c = λ stand watcher all own.
    let watching = c.requires.next.0 in
    let here : slice_get c.self.inside.monitors.items c.args.place ≡ Some watching = ap (λ parties. slice_get parties.monitors c.args.place) c.self.view_is ∙ c.requires.next.1 in
    let name : c.copied-name.result ≡ watching.name
    = c.copied-name.ensures ∙ c.name.ensures ∙ ap (λ (m : Monitor). m.name) (c.index.ensures ∙ get_or_from_slice_get c.self.inside.monitors.items c.args.place watching c.index.result.now here) in
    let asked = subst (λ (n : List ℕ). HasAsked g.H.NodeHash.digest_of g.V.Vuf.value_of g.S.Signer.signature_of g.R.Rng.stream g.V.VufCheck.accepted g.S.Verifier.verified c.args.self.now
    (Query (Lookup n c.args.epoch)) c.in_ok-reply.reply.items c.look_up.new.self) name c.in_ok-reply.ensures.asked in
    let there : slice_get c.self-2.inside.monitors.items c.args.place ≡ Some watching
    = ap (λ parties. slice_get parties.monitors c.args.place) c.self-2.view_is ∙ ap (λ parties. slice_get parties.monitors c.args.place) asked.others ∙ c.requires.next.1 in
    let same : c.index_mut.result.now ≡ watching = c.index_mut.ensures.value ∙ get_or_from_slice_get c.self-2.inside.monitors.items c.args.place watching c.index_mut.result.now there in
    let watched = subst (λ (m : Monitor). IfOk c.watch_epoch.result (λ went. Watches g.H.NodeHash.digest_of g.V.VufCheck.accepted m c.args.epoch c.body_of.result.now c.args.text.now.items went
    c.watch_epoch.new.text.items c.watch_epoch.new.monitor)) same c.watch_epoch.ensures in
    IfOk-weaker c.watch_epoch.result
    (λ went. Watches g.H.NodeHash.digest_of g.V.VufCheck.accepted watching c.args.epoch c.body_of.result.now c.args.text.now.items went c.watch_epoch.new.text.items c.watch_epoch.new.monitor)
    (λ went. HasStepped g.H.NodeHash.digest_of g.V.Vuf.value_of g.S.Signer.signature_of g.R.Rng.stream g.V.VufCheck.accepted g.S.Verifier.verified c.args.self.now stand c.args.place watcher
    c.args.text.now.items went c.watch_epoch.new.text.items _)
    (λ went steps. has-stepped g.H.NodeHash.digest_of g.V.Vuf.value_of g.S.Signer.signature_of g.R.Rng.stream g.V.VufCheck.accepted g.S.Verifier.verified c.args.self.now c.look_up.new.self _ stand c.args.place
    watcher watching c.watch_epoch.new.monitor c.args.epoch c.in_ok-reply.reply.items c.body_of.result.now all own c.requires.next.1 c.requires.next.2 asked (subst IsName name c.in_ok-reply.ensures.named)
    (λ whole form is. c.body_of.ensures whole form (c.deref.ensures.value ∙ is))
    (ap (λ (parties : Parties g.row.R.Denot). record parties { monitors = slice_set parties.monitors c.args.place c.watch_epoch.new.monitor }) c.self-2.view_is) c.args.text.now.items c.watch_epoch.new.text.items went steps) watched
