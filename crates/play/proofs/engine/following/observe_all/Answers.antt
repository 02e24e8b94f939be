use Rattle.std.proofs.Common.{arith, ◌≡◌, ◌∙◌, ◌∷◌, List, Ok, length, ap, refl, subst}
use Rattle.std.specs.List.{AllByRecursion}
use Rattle.rootchain.specs.Chains.{Verifies}
use Rattle.rootchain.specs.SignedRoots.{IsSignedRoot}
use Rattle.rootchain.specs.declared.signed_root.SignedRoot.{SignedRoot}
use Rattle.play.specs.Taking.{AuditorTakes}
use Rattle.play.proofs.Following.{one-list}
use Rattle.play.proofs.Taken.{observing-begin, observing-end, observing-step}
use Rattle.play.proofs.engine.following.observe_all.Goals as goal

pub loop-init : goal.loop-init
loop-init g c =
    let (roots, spelled, signed) = c.requires.offered in (
      omega (arith, c.len-end.ensures),
      observing-begin g.H.NodeHash.digest_of g.S.Verifier.verified c.args.key.now c.args.auditor.now c.in-Ok.roots c.in-Ok.ensures.exact.1.1,
      subst (AllByRecursion (Verifies g.S.Verifier.verified c.args.key.now)) (one-list c.args.list.now roots c.in-Ok.roots spelled c.in-Ok.ensures.exact) signed,
    )

pub unreachable-requires-in_default-next : goal.unreachable-requires-in_default-next
unreachable-requires-in_default-next g c =
    let none : length c.loop.roots ≡ 0 = ap (λ (rs : List SignedRoot). length rs) c.in_default-next.ensures.0 in
    absurd (omega (arith, none, c.loop.invariant.0, c.loop-test.true))

pub observe-requires : goal.observe-requires
observe-requires g c =
    let spelled : AllByRecursion IsSignedRoot (c.in-Some.root ∷ c.next.new.self) = subst (AllByRecursion IsSignedRoot) c.in-Some.ensures c.loop.invariant.1.spelled in
    let signed : AllByRecursion (Verifies g.S.Verifier.verified c.args.key.now) (c.in-Some.root ∷ c.next.new.self) = subst (AllByRecursion (Verifies g.S.Verifier.verified c.args.key.now)) c.in-Some.ensures c.loop.invariant.2 in
    (c.in-Some.root, (c.bytes.ensures.value ∙ c.write.ensures.value, spelled.0), signed.0)

pub loop-preserved : goal.loop-preserved
loop-preserved g c =
    let (told, observed) = c.in_ok-observe.ensures in
    let signed : AllByRecursion (Verifies g.S.Verifier.verified c.args.key.now) (c.in-Some.root ∷ c.next.new.self) = subst (AllByRecursion (Verifies g.S.Verifier.verified c.args.key.now)) c.in-Some.ensures c.loop.invariant.2 in
    let more = ap (λ (rs : List SignedRoot). length rs) c.in-Some.ensures in (
      omega (arith, more, c.loop.invariant.0),
      observing-step g.H.NodeHash.digest_of g.S.Verifier.verified c.args.key.now c.args.auditor.now c.in-Ok.roots c.loop.auditor c.observe.new.auditor c.loop.roots c.next.new.self c.in-Some.root c.bytes.result.now
          (Ok told) c.in-Some.ensures (c.bytes.ensures.value ∙ c.write.ensures.value) refl observed c.loop.invariant.1,
      signed.1,
    )

pub returns : goal.returns
returns g c roots spelled =
    let none : length c.loop.roots ≡ 0 = omega (arith, c.loop.invariant.0, c.loop-test.false) in
    subst (λ (rs : List SignedRoot). AuditorTakes g.H.NodeHash.digest_of g.S.Verifier.verified rs c.args.key.now c.args.auditor.now c.loop.auditor)
    (one-list c.args.list.now c.in-Ok.roots roots c.in-Ok.ensures.exact spelled)
    (observing-end g.H.NodeHash.digest_of g.S.Verifier.verified c.args.key.now c.args.auditor.now c.in-Ok.roots c.loop.auditor c.loop.roots none c.loop.invariant.1)
