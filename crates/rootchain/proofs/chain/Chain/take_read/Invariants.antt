use Rattle.std.proofs.Common.{◌+◌, ◌≤◌}
use Rattle.rootchain.proofs.TakingBytes.{Along}
use Rattle.rootchain.proofs.chain.Chain.take_read.Given as goal

abbrev pub invariant-loop-left : goal.invariant-loop-left
invariant-loop-left g l =
    Along g.H.NodeHash.digest_of g.S.Verifier.verified l.fn.self l.count l.fn.cursor l.self l.left l.cursor
    × (g.H.NodeHash.digests l.hash + l.left ≤ g.H.NodeHash.digests l.fn.hash + l.count)

abbrev pub decreases-loop-left : goal.decreases-loop-left
decreases-loop-left g l = l.left
