use Rattle.std.proofs.Common.{◌≡◌, ◌+◌, ◌-◌, ◌<◌, length, arith}
use Rattle.prefixtree.proofs.Climbs.{climbed}
use Rattle.prefixtree.proofs.way.climb.Goals as goal

pub loop-k-preserved : goal.loop-k-preserved
loop-k-preserved g c =
    let next : c.loop-k.k ≡ c.loop-k.k - 1 + 1 = omega arith in
    let inside : c.loop-k.k - 1 < length c.args.siblings.now = omega arith in (
      rw (c.joined_text-text.ensures.value, c.digest-below.ensures.value, c.bytes.ensures.value, c.new.ensures) (climbed g.H.NodeHash.digest_of c.args.index.now c.args.siblings.now c.args.end c.loop-k.text (c.loop-k.k - 1) c.loop-k.k next inside c.loop-k.invariant.0),
      omega (arith, c.digest-below.ensures.count, c.loop-k.invariant.1),
      omega (arith, c.loop-k-test.true),
    )
