use Rattle.std.proofs.Common.{◌≡◌, ◌+◌, ◌≤◌, drop, length}
use Rattle.prefixtree.specs.Paths.{node_text}
use Rattle.prefixtree.proofs.way.climb.Given as goal

-- the text so far is that of this level, for one digest a level
abbrev pub invariant-loop-k : goal.invariant-loop-k
invariant-loop-k g l = (l.text ≡ node_text g.H.NodeHash.digest_of l.index l.k (drop l.k l.siblings) l.fn.end)
    × (g.H.NodeHash.digests l.hash + l.k ≤ g.H.NodeHash.digests l.fn.hash + length l.siblings)
    × (l.level ≤ l.k)
