-- Many changes put in at once: how many nodes of the new tree are made for them.
use Rattle.std.specs.Prelude.{ℕ, zero, suc, ◌+◌, [], ◌∷◌}
use Rattle.prefixtree.specs.Placement.{Items, put_all}
use Rattle.prefixtree.specs.Node.{half, level_of, node_count}

-- How many nodes are made at and below a prefix with these items when the changes below it are put in.
-- Without a change none is made, since the new tree shares the old node. Where at most one item stood,
-- each node that stands there then is made. Else the node itself is, and those below both sides.
unfoldable pub made_count : ℕ → Items → Items → ℕ
made_count below items [] = 0
made_count below [] (change ∷ changes) = node_count below (put_all [] (change ∷ changes))
made_count below (item ∷ []) (change ∷ changes) = node_count below (put_all (item ∷ []) (change ∷ changes))
made_count zero (first ∷ second ∷ more) (change ∷ changes) = 0
made_count (suc below) (first ∷ second ∷ more) (change ∷ changes) =
    let items : Items = first ∷ second ∷ more in
    let all : Items = change ∷ changes in
    let level : ℕ = level_of (suc below) in
    made_count below (half 0 level items) (half 0 level all) + made_count below (half 1 level items) (half 1 level all) + 1
