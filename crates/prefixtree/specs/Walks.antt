-- The walk from the root of a tree down the way of an index.
use Rattle.std.specs.Prelude.{◌≡◌, ℕ, ◌+◌, ◌<◌, ◌≤◌, List, length, Option}
use Rattle.std.specs.declared.option.Option.TheVariants.{Some, None}
use Rattle.encoding.specs.Bits.{cut}
use Rattle.encoding.specs.Bytes.{Is32Bytes}
use Rattle.prefixtree.specs.Contents.{Contents}
use Rattle.prefixtree.specs.Built.{contents, IsBuilt}
use Rattle.prefixtree.specs.Paths.{agreeing, sibling, EndsAt}
use Rattle.prefixtree.specs.declared.node.Node.{Node}

-- where a walk stands: on the way of an index in a tree, at a level
pub record Waypoint : Type 0 where
  pub tree : Contents
  pub index : List ℕ
  pub level : ℕ

-- the node on the way of an index at a level: it has the items that agree with the index so far, and
-- more than one did at each level above
pub record IsOnWay (of : List ℕ → List ℕ) (tree : Contents) (index : List ℕ) (level : ℕ) (node : Node) : Type 0 where
  pub fits : level ≤ 256
  pub size : Is32Bytes index
  pub built : IsBuilt of tree.nonce (cut index level) level node
  pub items : contents node ≡ agreeing index level tree.items
  pub more : (n : ℕ) → n < level → 1 < length (agreeing index n tree.items)

-- a step goes down one level and gives the sibling there, or the walk is at its end and stays
abbrev pub StepsDown : (List ℕ → List ℕ) → Waypoint → Option (List ℕ) → Waypoint → Type 0
StepsDown of old (Some hash) new =
    (old.level < 256)
    × (hash ≡ sibling of old.tree.nonce old.tree.items old.index old.level)
    × (new ≡ record old { level = old.level + 1 })
StepsDown of old None new = (old.level ≤ 256) × EndsAt old.index old.tree.items old.level × (new ≡ old)
