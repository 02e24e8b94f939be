use Rattle.std.proofs.Common.{◌-◌, arith, rules}
use Rattle.rootchain.proofs.Walks.{at-place, cleared_one, cleared_other, last_here}
use Rattle.rootchain.proofs.chain.comparing.last_places.Goals as goal

pub returns-then-eq-clause-some : goal.returns-then-eq-clause-some
returns-then-eq-clause-some c =
    let first = c.loop-i-test.true in let second = c.if-j-gt0.true in let inv = c.loop-i.invariant in let in-one = inv.one in let in-other = inv.other in
    last_here c.args.ones.now c.args.others.now c.requires.ones c.requires.others c.loop-i.i c.loop-i.j (c.loop-i.i - 1) (c.loop-i.j - 1) (omega (arith, first)) (omega (arith, second))
    c.index-ones-i.result c.index-others-j.result
    (at-place c.args.ones.now (c.loop-i.i - 1) c.index-ones-i.result (omega (arith, first, in-one)) c.index-ones-i.is) (at-place c.args.others.now (c.loop-i.j - 1) c.index-others-j.result (omega (arith, second, in-other)) c.index-others-j.is) inv.clear (search rules)

pub loop-i-preserved-then-one-other : goal.loop-i-preserved-then-one-other
loop-i-preserved-then-one-other c =
    let first = c.loop-i-test.true in let second = c.if-j-gt0.true in let inv = c.loop-i.invariant in let in-one = inv.one in let in-other = inv.other in
    record {
      one = inv.one;
      other = omega (arith, in-other);
      clear = cleared_other c.args.ones.now c.args.others.now c.requires.ones c.requires.others c.loop-i.i c.loop-i.j (c.loop-i.i - 1) (c.loop-i.j - 1) (omega (arith, first)) (omega (arith, second))
          c.index-ones-i.result c.index-others-j.result
          (at-place c.args.ones.now (c.loop-i.i - 1) c.index-ones-i.result (omega (arith, first, in-one)) c.index-ones-i.is) (at-place c.args.others.now (c.loop-i.j - 1) c.index-others-j.result (omega (arith, second, in-other)) c.index-others-j.is) inv.clear c.if-one-other.true;
    }

pub loop-i-preserved : goal.loop-i-preserved
loop-i-preserved c =
    let first = c.loop-i-test.true in let second = c.if-j-gt0.true in let inv = c.loop-i.invariant in let in-one = inv.one in let in-other = inv.other in
    record {
      one = omega (arith, in-one);
      other = inv.other;
      clear = cleared_one c.args.ones.now c.args.others.now c.requires.ones c.requires.others c.loop-i.i c.loop-i.j (c.loop-i.i - 1) (c.loop-i.j - 1) (omega (arith, first)) (omega (arith, second))
          c.index-ones-i.result c.index-others-j.result
          (at-place c.args.ones.now (c.loop-i.i - 1) c.index-ones-i.result (omega (arith, first, in-one)) c.index-ones-i.is) (at-place c.args.others.now (c.loop-i.j - 1) c.index-others-j.result (omega (arith, second, in-other)) c.index-others-j.is) inv.clear (search rules) c.if-one-other.false;
    }
