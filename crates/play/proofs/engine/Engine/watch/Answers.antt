use Rattle.std.proofs.Common.{rules, ap, ◌≡◌, ◌∙◌, length, option_map}
use Rattle.std.proofs.lemmas.Result.{on_ok_weaker}
use Rattle.play.specs.Parties.{Parties}
use Rattle.play.specs.Played.{watcher_of}
use Rattle.play.proofs.Added.{new-there, new-within, watched}
use Rattle.play.proofs.engine.Engine.watch.Goals as goal

pub step_through-requires-clause-there : goal.step_through-requires-clause-there
step_through-requires-clause-there g c =
    let long : c.len-place.result ≡ length c.self.inside.monitors.items = search rules in
    let last : c.len-place.result ≡ length c.args.self.now.monitors = long ∙ ap (λ (p : Parties g.row.R.Denot). length p.monitors) c.self.view_is in
    new-within g.H.NodeHash.digest_of g.V.Vuf.value_of g.S.Signer.signature_of g.R.Rng.stream g.V.VufCheck.accepted g.S.Verifier.verified c.args.self.now c.add_monitor.new.self c.requires.at.0 c.args.name.now (option_map (λ k. k.now) c.args.key) c.len-place.result last c.requires.at.1
    (c.in_ok-add_monitor.ensures.added c.requires.at.0 c.requires.at.1)

pub returns-clause-done : goal.returns-clause-done
returns-clause-done g c = λ stand all.
    let long : c.len-place.result ≡ length c.self.inside.monitors.items = search rules in
    let last : c.len-place.result ≡ length c.args.self.now.monitors = long ∙ ap (λ (p : Parties g.row.R.Denot). length p.monitors) c.self.view_is in
    let more = c.in_ok-add_monitor.ensures.added stand all in
    let there = new-there g.H.NodeHash.digest_of g.V.Vuf.value_of g.S.Signer.signature_of g.R.Rng.stream g.V.VufCheck.accepted g.S.Verifier.verified c.args.self.now c.add_monitor.new.self stand c.args.name.now (option_map (λ k. k.now) c.args.key) c.len-place.result last all more in
    on_ok_weaker c.step_through.result
    (watched g.H.NodeHash.digest_of g.V.Vuf.value_of g.S.Signer.signature_of g.R.Rng.stream g.V.VufCheck.accepted g.S.Verifier.verified c.args.self.now c.add_monitor.new.self stand c.args.name.now (option_map (λ k. k.now) c.args.key) c.len-place.result last all more
    (c.in_ok-add_monitor.ensures.sound stand all) c.in_ok-add_monitor.ensures.keys c.args.text.now.items c.step_through.new.text.items c.step_through.new.self)
    (c.step_through.ensures.done _ (watcher_of stand.book c.args.name.now (option_map (λ k. k.now) c.args.key)) more there)
