use Rattle.std.proofs.Common.{◌≡◌, ◌+◌, ◌-◌, ◌<◌, [], length, slice_index_or, refl, arith}
use Rattle.prefixtree.specs.Paths.{parent_text}
use Rattle.proofs.proofs.Differing.{goes_up, starts}
use Rattle.proofs.proofs.comparing.first_to_differ.Goals as goal

pub loop-k-init : goal.loop-k-init
loop-k-init g c = (
  starts g.H.NodeHash.digest_of g.met.H.NodeHash.digest_size c.args.index.now c.args.first_siblings.now c.args.second_siblings.now c.args.first_end c.args.second_end
      c.climb-first.result c.climb-second.result c.first_of-found.result c.min-k.result c.requires.first_siblings.1 c.requires.second_siblings.1 c.min-k.ensures c.requires.first_end c.requires.second_end
      c.climb-first.ensures.value c.climb-second.ensures.value c.first_of-found.ensures,
  omega (arith, c.climb-first.ensures.counted, c.climb-second.ensures.counted),
)

pub loop-k-preserved : goal.loop-k-preserved
loop-k-preserved g c =
    let next : c.loop-k.k ≡ c.loop-k.k - 1 + 1 = omega (arith, c.loop-k-test.true) in
    let inside : c.loop-k.k - 1 < length c.args.first_siblings.now = omega (arith, c.loop-k-test.true, c.loop-k.invariant.0.first_long) in
    let second_inside : c.loop-k.k - 1 < length c.args.second_siblings.now = omega (arith, c.loop-k-test.true, c.loop-k.invariant.0.second_long) in (
      goes_up g.H.NodeHash.digest_of g.met.H.NodeHash.digest_size c.args.index.now c.args.first_siblings.now c.args.second_siblings.now c.args.first_end c.args.second_end
          c.loop-k.first c.loop-k.second c.joined_text-first.result c.joined_text-second.result c.loop-k.found c.first_of-found-in-loop-k.result (c.loop-k.k - 1) c.loop-k.k
          next inside second_inside c.loop-k.invariant.0
          (rw (c.joined_text-first.ensures.value, c.digest-below.ensures.value, c.bytes.ensures.value, c.new.ensures)
          (refl {a = parent_text c.args.index.now (c.loop-k.k - 1) (g.H.NodeHash.digest_of c.loop-k.first) (slice_index_or c.args.first_siblings.now (c.loop-k.k - 1) [])}))
          (rw (c.joined_text-second.ensures.value, c.digest-below-in-loop-k.ensures.value, c.bytes-in-loop-k.ensures.value, c.new-in-loop-k.ensures)
          (refl {a = parent_text c.args.index.now (c.loop-k.k - 1) (g.H.NodeHash.digest_of c.loop-k.second) (slice_index_or c.args.second_siblings.now (c.loop-k.k - 1) [])}))
          c.first_of-found-in-loop-k.ensures,
      omega (arith, c.digest-below.ensures.count, c.digest-below-in-loop-k.ensures.count, c.loop-k.invariant.1, c.loop-k-test.true),
    )
