use Rattle.std.proofs.Common.{rules, arith, ◌≡◌, ◌≢◌, ◌-◌, [], true, false}
use Rattle.rootchain.specs.TakingLists.{IsRefusedRoot}
use Rattle.rootchain.proofs.TakingBytes.{along-begin, along-end, along-fault, along-left, along-step, along-stopped}
use Rattle.rootchain.proofs.chain.Chain.take_read.Goals as goal

pub loop-left-init : goal.loop-left-init
loop-left-init g c = (along-begin g.H.NodeHash.digest_of g.S.Verifier.verified c.args.self.now c.args.count c.args.cursor.now, omega arith)

pub returns-in_default-clause-read : goal.returns-in_default-clause-read
returns-in_default-clause-read g c =
    along-fault g.H.NodeHash.digest_of g.S.Verifier.verified c.args.self.now c.args.count c.args.cursor.now c.loop-left.self c.loop-left.left (c.loop-left.left - 1) c.loop-left.cursor _ c.loop-left.why
    (omega (arith, c.loop-left-test.true)) c.in_default.ensures.read c.loop-left.invariant.0

pub loop-left-preserved : goal.loop-left-preserved
loop-left-preserved g c =
    let taken : c.take_one.result ≡ true = search rules in (
      along-step g.H.NodeHash.digest_of g.S.Verifier.verified c.args.self.now c.args.count c.args.cursor.now c.loop-left.self c.loop-left.left (c.loop-left.left - 1) c.loop-left.cursor _ _
          (omega (arith, c.loop-left-test.true)) c.in-Ok.ensures.read c.loop-left.invariant.0 c.take_one.new.self (rw taken at c.take_one.ensures.one),
      omega (arith, c.loop-left-test.true, c.take_one.ensures.counted, c.loop-left.invariant.1),
    )

pub returns-then-not-take_one-clause-read : goal.returns-then-not-take_one-clause-read
returns-then-not-take_one-clause-read g c =
    let refused : c.take_one.result ≡ false = search rules in
    let stops : IsRefusedRoot g.H.NodeHash.digest_of g.S.Verifier.verified c.loop-left.self c.in-Ok.root c.take_one.new.why × (c.take_one.new.self ≡ c.loop-left.self) = rw refused at c.take_one.ensures.one in
    rw c.refused_if.ensures (along-stopped g.H.NodeHash.digest_of g.S.Verifier.verified c.args.self.now c.args.count c.args.cursor.now c.loop-left.self c.loop-left.left (c.loop-left.left - 1) c.loop-left.cursor _ _
    (omega (arith, c.loop-left-test.true)) c.in-Ok.ensures.read c.loop-left.invariant.0 c.has_roots.result c.has_roots.ensures _ _ stops.0 stops.1)

pub returns-in-Ok-end-clause-read : goal.returns-in-Ok-end-clause-read
returns-in-Ok-end-clause-read g c =
    let over : c.loop-left.cursor ≡ [] = search rules in
    along-end g.H.NodeHash.digest_of g.S.Verifier.verified c.args.self.now c.args.count c.args.cursor.now c.loop-left.self c.loop-left.left c.loop-left.cursor c.loop-left.why (omega (arith, c.loop-left-test.false)) over c.loop-left.invariant.0

pub returns-in-Err-clause-read : goal.returns-in-Err-clause-read
returns-in-Err-clause-read g c =
    let some : c.loop-left.cursor ≢ [] = search rules in
    along-left g.H.NodeHash.digest_of g.S.Verifier.verified c.args.self.now c.args.count c.args.cursor.now c.loop-left.self c.loop-left.left c.loop-left.cursor c.loop-left.why (omega (arith, c.loop-left-test.false)) some c.loop-left.invariant.0
