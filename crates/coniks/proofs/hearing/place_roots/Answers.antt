use Rattle.std.proofs.Common.{[], ◌∷◌, ◌++◌, ap, arith, length, ◌∙◌}
use Rattle.coniks.proofs.Listing.{all-done, more-left, nothing-yet, one-more}
use Rattle.coniks.proofs.hearing.place_roots.Goals as goal

pub loop-n-init : goal.loop-n-init
loop-n-init c = (([], nothing-yet c.args.list c.args.parts.now), omega arith)

pub loop-n-preserved : goal.loop-n-preserved
loop-n-preserved c =
    let ((done, are), low) = c.loop-n.invariant in
    let size = ap length (c.bytes-len.ensures.value ∙ c.write.ensures.value) in
    let most = c.write.ensures.most in
    let same = ap length c.bytes-len.ensures.value in
    let room = c.requires.room in
    let few = c.requires.listed.0 in
    let count = c.len-count.ensures in
    let test = c.loop-n-test.true in
    let parts = c.loop-n.auto.parts in
    ((done ++ c.in-Some.root ∷ [], one-more are c.in-Some.root c.in-Some.ensures (length c.bytes-len.result.now) size (omega (arith, room, few, count, test, parts))), omega (arith, low, most, same))

pub unreachable-requires : goal.unreachable-requires
unreachable-requires c = let count = c.len-count.ensures in let test = c.loop-n-test.true in more-left c.loop-n.invariant.0.1 (omega (arith, count, test)) c.in_default.ensures.0

pub overflow_add-start : goal.overflow_add-start
overflow_add-start c =
    let low = c.loop-n.invariant.1 in
    let most = c.write.ensures.most in
    let same = ap length c.bytes-len.ensures.value in
    let few = c.requires.listed.0 in
    let count = c.len-count.ensures in
    let test = c.loop-n-test.true in
    omega (arith, low, most, same, few, count, test)

pub returns-clause-rest : goal.returns-clause-rest
returns-clause-rest c =
    let count = c.len-count.ensures in
    let high = c.loop-n-test.false in
    let end = c.loop-n.auto.n-end in
    let still = c.loop-n.invariant.0.1.still in
    (still.0, λ n low. still.1 n (omega (arith, count, high, end, low)))

pub returns-clause-placed : goal.returns-clause-placed
returns-clause-placed c = let count = c.len-count.ensures in let high = c.loop-n-test.false in let end = c.loop-n.auto.n-end in all-done c.loop-n.invariant.0.1 (omega (arith, count, high, end))
