use Rattle.std.proofs.Common.{◌≡◌, ◌∙◌, length, ap, arith}
use Rattle.book.specs.Shows.{index_of, Provider}
use Rattle.epochs.specs.DirectoryStates.{provider}
use Rattle.play.specs.Parties.{Parties}
use Rattle.play.proofs.Behind.{keys-join, same-provider}
use Rattle.play.proofs.Followed.{stands-now, still-there, watched-begin, watched-end, watched-step}
use Rattle.play.proofs.engine.Engine.follow.Goals as goal

pub loop-place-init : goal.loop-place-init
loop-place-init g c =
    let many : c.len-place-end.result ≡ length c.take_roots.new.self.monitors =
    c.len-place-end.ensures ∙ c.self.inside.monitors.ok.0 ∙ ap (λ (p : Parties g.row.R.Denot). length p.monitors) c.self.view_is in (
      c.in_ok-take_roots.ensures.keys,
      λ stand b. watched-begin g.H.NodeHash.digest_of g.V.Vuf.value_of g.S.Signer.signature_of g.R.Rng.stream g.V.VufCheck.accepted g.S.Verifier.verified
          (index_of (provider g.H.NodeHash.digest_of g.V.Vuf.value_of g.S.Signer.signature_of c.args.self.now.hub.service.directory)) c.args.text.now.items stand
          c.len-place-end.result c.take_roots.new.self many (c.in_ok-take_roots.ensures.at stand b),
      c.in_ok-take_roots.ensures.looks,
    )

pub step_through-requires-clause-at : goal.step_through-requires-clause-at
step_through-requires-clause-at g c =
    stands-now g.H.NodeHash.digest_of g.V.Vuf.value_of g.S.Signer.signature_of g.R.Rng.stream g.V.VufCheck.accepted g.S.Verifier.verified
    (index_of (provider g.H.NodeHash.digest_of g.V.Vuf.value_of g.S.Signer.signature_of c.args.self.now.hub.service.directory)) c.args.text.now.items c.requires.behind.0
    c.len-place-end.result c.loop-place.place c.loop-place.text.items c.loop-place.self (c.loop-place.invariant.1 c.requires.behind.0 c.requires.behind.1)

pub step_through-requires-clause-there : goal.step_through-requires-clause-there
step_through-requires-clause-there g c =
    let many = still-there g.H.NodeHash.digest_of g.V.Vuf.value_of g.S.Signer.signature_of g.R.Rng.stream g.V.VufCheck.accepted g.S.Verifier.verified
    (index_of (provider g.H.NodeHash.digest_of g.V.Vuf.value_of g.S.Signer.signature_of c.args.self.now.hub.service.directory)) c.args.text.now.items c.requires.behind.0
    c.len-place-end.result c.loop-place.place c.loop-place.text.items c.loop-place.self (c.loop-place.invariant.1 c.requires.behind.0 c.requires.behind.1) in
    omega (arith, many, c.loop-place-test.true)

pub loop-place-preserved : goal.loop-place-preserved
loop-place-preserved g c =
    let same = ap (λ (p : Provider). index_of p) (same-provider g.H.NodeHash.digest_of g.V.Vuf.value_of g.S.Signer.signature_of g.R.Rng.stream g.V.VufCheck.accepted g.S.Verifier.verified
    c.args.self.now c.loop-place.self c.loop-place.invariant.0) in (
      keys-join c.args.self.now.hub.service.directory c.loop-place.self.hub.service.directory c.step_through.new.self.hub.service.directory c.loop-place.invariant.0 c.in_ok-step_through.ensures.keys,
      λ stand b. watched-step g.H.NodeHash.digest_of g.V.Vuf.value_of g.S.Signer.signature_of g.R.Rng.stream g.V.VufCheck.accepted g.S.Verifier.verified
          (index_of (provider g.H.NodeHash.digest_of g.V.Vuf.value_of g.S.Signer.signature_of c.args.self.now.hub.service.directory)) c.args.text.now.items stand
          (index_of (provider g.H.NodeHash.digest_of g.V.Vuf.value_of g.S.Signer.signature_of c.loop-place.self.hub.service.directory)) c.len-place-end.result c.loop-place.place
          c.loop-place.text.items c.step_through.new.text.items c.loop-place.self c.step_through.new.self same c.loop-place-test.true c.in_ok-step_through.ensures.done (c.loop-place.invariant.1 stand b),
      c.in_ok-step_through.ensures.looks ∙ c.loop-place.invariant.2,
    )

pub returns-clause-done : goal.returns-clause-done
returns-clause-done g c stand b =
    watched-end g.H.NodeHash.digest_of g.V.Vuf.value_of g.S.Signer.signature_of g.R.Rng.stream g.V.VufCheck.accepted g.S.Verifier.verified
    (index_of (provider g.H.NodeHash.digest_of g.V.Vuf.value_of g.S.Signer.signature_of c.args.self.now.hub.service.directory)) c.args.text.now.items stand
    c.len-place-end.result c.loop-place.place c.loop-place.text.items c.loop-place.self c.loop-place-test.false (c.loop-place.invariant.1 stand b)

pub returns-clause-keys : goal.returns-clause-keys
returns-clause-keys g c = c.loop-place.invariant.0

pub returns-clause-looks : goal.returns-clause-looks
returns-clause-looks g c = c.loop-place.invariant.2
