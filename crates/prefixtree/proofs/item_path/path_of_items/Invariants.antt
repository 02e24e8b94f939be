use Rattle.std.proofs.Common.{◌≡◌, ◌+◌, ◌-◌, ◌<◌, ◌≤◌, ℕ, length}
use Rattle.prefixtree.specs.Node.{node_count}
use Rattle.prefixtree.specs.Paths.{agreeing, hash_at, sibling}
use Rattle.prefixtree.proofs.item_path.path_of_items.Given as goal

-- the items that are left agree with the index so far, and more than one did at each level above
abbrev pub invariant-levels : goal.invariant-levels
invariant-levels g l = record {
  left : l.left ≡ agreeing l.index l.level l.items;
  level : length l.siblings.items ≡ l.level;
  beside : (k : ℕ) → k < length l.siblings.items → hash_at l.siblings.items k ≡ sibling g.H.NodeHash.digest_of l.nonce l.items l.index k;
  more : (n : ℕ) → n < l.level → 1 < length (agreeing l.index n l.items);
  work : g.H.NodeHash.digests l.hash + node_count (256 - l.level) l.left + l.level ≤ g.H.NodeHash.digests l.fn.hash + node_count 256 l.items;
}
