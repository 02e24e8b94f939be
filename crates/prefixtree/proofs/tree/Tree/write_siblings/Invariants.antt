use Rattle.std.proofs.Common.{◌≡◌, ◌+◌, ◌-◌, ◌*◌, ◌≤◌, ◌<◌, ◌++◌, ℕ, List, length}
use Rattle.std.specs.List.{flat_map}
use Rattle.std.specs.Prelude.{vec_len, vec_capacity}
use Rattle.prefixtree.specs.Paths.{hash_at, sibling}
use Rattle.prefixtree.proofs.tree.Tree.write_siblings.Given as goal

-- the siblings that the walk of the index has passed are written
abbrev pub invariant-loop-sibling : goal.invariant-loop-sibling
invariant-loop-sibling g l = record {
  siblings : List (List ℕ);
  walk : l.walk ≡ record { tree = l.self; index = l.index; level = length siblings };
  beside : (k : ℕ) → k < length siblings → hash_at siblings k ≡ sibling g.H.NodeHash.digest_of l.self.nonce l.self.items l.index k;
  written : l.output.items ≡ l.fn.output.items ++ flat_map (λ sibling. sibling) siblings;
  room : vec_len l.output + 32 * (256 - l.walk.level) ≤ vec_capacity l.output;
  keeps : vec_capacity l.fn.output ≤ vec_capacity l.output;
  grown : vec_len l.output ≡ vec_len l.fn.output + 32 * l.walk.level;
}

-- the levels that are left
abbrev pub decreases-loop-sibling : goal.decreases-loop-sibling
decreases-loop-sibling g l = 256 - l.walk.level
