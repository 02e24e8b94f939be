use Rattle.std.proofs.Common.{◌∙◌, refl, ap, subst}
use Rattle.rootchain.specs.Chains.{IsHead, KeyedRoots}
use Rattle.play.specs.Parties.{Parties}
use Rattle.play.proofs.Behind.{at-end, keys-join}
use Rattle.play.proofs.engine.Engine.take_roots.Goals as goal

pub loop-init : goal.loop-init
loop-init g c = ((refl, refl), λ stand b. b, refl)

pub returns-then-head-latest-clause-at : goal.returns-then-head-latest-clause-at
returns-then-head-latest-clause-at g c stand b =
    let at_head : IsHead c.loop.self.client.chain c.head.result.now =
    subst (λ (chain : KeyedRoots). IsHead chain c.head.result.now) (c.chain.ensures.value ∙ ap (λ (p : Parties g.row.R.Denot). p.client.chain) c.self.view_is) c.head.ensures.head in
    at-end g.H.NodeHash.digest_of g.V.Vuf.value_of g.S.Signer.signature_of g.R.Rng.stream g.V.VufCheck.accepted g.S.Verifier.verified c.loop.self stand c.head.result.now
    c.latest.ensures.well.sound at_head (c.if-head-latest.true ∙ c.latest.ensures.epoch) (c.loop.invariant.1 stand b)

pub returns-then-head-latest-clause-looks : goal.returns-then-head-latest-clause-looks
returns-then-head-latest-clause-looks g c = c.loop.invariant.2

pub take_list-requires : goal.take_list-requires
take_list-requires g c = record { behind = (c.requires.behind.0, c.loop.invariant.1 c.requires.behind.0 c.requires.behind.1) }

pub loop-preserved : goal.loop-preserved
loop-preserved g c = (
  keys-join c.args.self.now.hub.service.directory c.loop.self.hub.service.directory c.take_list.new.self.hub.service.directory c.loop.invariant.0 c.in_ok-take_list.ensures.keys,
  λ stand b. c.in_ok-take_list.ensures.behind stand (c.loop.invariant.1 stand b),
  c.in_ok-take_list.ensures.looks ∙ c.loop.invariant.2,
)
