use Rattle.std.proofs.Common.{◌≡◌, ◌∙◌, ap}
use Rattle.rootchain.specs.declared.signed_promise.SignedPromise.{SignedPromise}
use Rattle.monitor.specs.Monitors.{with_change}
use Rattle.play.proofs.Calling.{one-promise}
use Rattle.play.proofs.Refused.{expects-well}
use Rattle.play.proofs.engine.handing.hand_key.Goals as goal

pub monitor_memory-requires : goal.monitor_memory-requires
monitor_memory-requires g c =
    let (promised, new) = c.requires.new in
    expects-well g.H.NodeHash.digest_of g.S.Verifier.verified c.args.monitor.now c.expect.new.self c.args.key.now c.args.promise.now promised new
    c.expect.result c.expect.ensures.expects c.in-Err.why c.in-Err.is

pub returns-in-Ok : goal.returns-in-Ok
returns-in-Ok g c promised spelled =
    let expects = c.in-Ok.ensures.expects in
    let one : expects.0 ≡ promised = one-promise c.args.promise.now expects.0 promised expects.1.0.0.0 spelled in
    expects.2 ∙ ap (λ (p : SignedPromise). with_change c.args.monitor.now p) one
