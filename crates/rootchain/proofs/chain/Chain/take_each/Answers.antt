use Rattle.std.proofs.Common.{rules, arith, ◌≡◌, ◌+◌, true, false, length, List, ap, ◌∙◌}
use Rattle.rootchain.specs.declared.signed_root.SignedRoot.{SignedRoot}
use Rattle.rootchain.specs.TakingLists.{IsRefusedRoot}
use Rattle.rootchain.proofs.TakingLists.{leads-step, leads-stop}
use Rattle.rootchain.proofs.chain.Chain.take_each.Goals as goal

pub loop-root-preserved : goal.loop-root-preserved
loop-root-preserved g c =
    let taken : c.take_one.result ≡ true = search rules in
    let one : length c.loop-root.list ≡ length c.next.new.self + 1 = ap (λ (rs : List SignedRoot). length rs) c.in-Some.ensures ∙ omega arith in (
      leads-step g.H.NodeHash.digest_of g.S.Verifier.verified c.args.self.now c.args.list c.loop-root.self c.loop-root.list c.in-Some.root c.next.new.self c.take_one.new.self
          c.in-Some.ensures (rw taken at c.take_one.ensures.one) c.loop-root.invariant.0,
      omega (arith, one, c.take_one.ensures.counted, c.loop-root.invariant.1),
    )

pub returns-then-not-take_one-clause-each : goal.returns-then-not-take_one-clause-each
returns-then-not-take_one-clause-each g c =
    let refused : c.take_one.result ≡ false = search rules in
    let stops : IsRefusedRoot g.H.NodeHash.digest_of g.S.Verifier.verified c.loop-root.self c.in-Some.root c.take_one.new.why × (c.take_one.new.self ≡ c.loop-root.self) = rw refused at c.take_one.ensures.one in
    leads-stop g.H.NodeHash.digest_of g.S.Verifier.verified c.args.self.now c.args.list c.loop-root.self c.loop-root.list c.in-Some.root c.next.new.self c.take_one.new.why c.take_one.new.self
    c.in-Some.ensures stops.0 stops.1 c.loop-root.invariant.0
