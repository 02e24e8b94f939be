use Rattle.std.proofs.Common.{◌+◌, ◌≤◌, length}
use Rattle.rootchain.proofs.TakingLists.{Leads}
use Rattle.rootchain.proofs.chain.Chain.take_each.Given as goal

abbrev pub invariant-loop-root : goal.invariant-loop-root
invariant-loop-root g l =
    Leads g.H.NodeHash.digest_of g.S.Verifier.verified l.fn.self l.fn.list l.self l.list
    × (g.H.NodeHash.digests l.hash + length l.list ≤ g.H.NodeHash.digests l.fn.hash + length l.fn.list)

abbrev pub decreases-loop-root : goal.decreases-loop-root
decreases-loop-root g l = length l.list
