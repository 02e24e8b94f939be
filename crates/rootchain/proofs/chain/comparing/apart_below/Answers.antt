use Rattle.std.proofs.Common.{◌-◌, arith, rules}
use Rattle.std.proofs.lemmas.Option.{slice_get_within}
use Rattle.rootchain.proofs.Walks.{at-place, apart_here, run_more}
use Rattle.rootchain.proofs.chain.comparing.apart_below.Goals as goal

pub returns-then-ne-clause-some : goal.returns-then-ne-clause-some
returns-then-ne-clause-some c =
    let first = c.loop-low-test.true in let second = c.if-other_low-gt0.true in let run = c.loop-low.invariant in let low = run.low in let step = run.step in
    let in-one = slice_get_within c.args.ones.now c.args.to c.requires.one c.requires.at-one in let in-other = slice_get_within c.args.others.now c.args.other_to c.requires.other c.requires.at-other in
    apart_here c.args.ones.now c.args.others.now c.args.to c.args.other_to c.loop-low.low c.loop-low.other_low (c.loop-low.low - 1) (c.loop-low.other_low - 1) (omega (arith, first)) (omega (arith, second))
    c.index-ones-low.result c.index-others-other_low.result
    (at-place c.args.ones.now (c.loop-low.low - 1) c.index-ones-low.result (omega (arith, first, in-one, low)) c.index-ones-low.is) (at-place c.args.others.now (c.loop-low.other_low - 1) c.index-others-other_low.result (omega (arith, second, in-other, low, step)) c.index-others-other_low.is) run (search rules)

pub loop-low-preserved : goal.loop-low-preserved
loop-low-preserved c =
    let first = c.loop-low-test.true in let second = c.if-other_low-gt0.true in let run = c.loop-low.invariant in let low = run.low in let step = run.step in
    let in-one = slice_get_within c.args.ones.now c.args.to c.requires.one c.requires.at-one in let in-other = slice_get_within c.args.others.now c.args.other_to c.requires.other c.requires.at-other in
    run_more c.args.ones.now c.args.others.now c.args.to c.args.other_to c.loop-low.low c.loop-low.other_low (c.loop-low.low - 1) (c.loop-low.other_low - 1) (omega (arith, first)) (omega (arith, second))
    c.index-ones-low.result c.index-others-other_low.result
    (at-place c.args.ones.now (c.loop-low.low - 1) c.index-ones-low.result (omega (arith, first, in-one, low)) c.index-ones-low.is) (at-place c.args.others.now (c.loop-low.other_low - 1) c.index-others-other_low.result (omega (arith, second, in-other, low, step)) c.index-others-other_low.is) run (search rules)
