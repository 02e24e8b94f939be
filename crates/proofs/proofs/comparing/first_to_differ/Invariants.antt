use Rattle.std.proofs.Common.{◌+◌, ◌≤◌, length}
use Rattle.proofs.proofs.Differing.{Compared}
use Rattle.proofs.proofs.comparing.first_to_differ.Given as goal

-- what was found so far, for one digest a level of each way
abbrev pub invariant-loop-k : goal.invariant-loop-k
invariant-loop-k g l = Compared g.H.NodeHash.digest_of g.met.H.NodeHash.digest_size l.index l.first_siblings l.second_siblings l.fn.first_end l.fn.second_end l.k l.first l.second l.found
    × (g.H.NodeHash.digests l.hash + l.k + l.k ≤ g.H.NodeHash.digests l.fn.hash + length l.first_siblings + length l.second_siblings)

abbrev pub decreases-loop-k : goal.decreases-loop-k
decreases-loop-k g l = l.k
