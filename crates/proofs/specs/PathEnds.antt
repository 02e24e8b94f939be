-- What the end of a reply is in the tree: the end of a path, and the text of its node (CONIKS, section 3).
use Rattle.std.specs.Prelude.{ℕ, List}
use Rattle.commit.specs.Commitments.{commitment_bytes}
use Rattle.prefixtree.specs.Paths.{end_bytes}
use Rattle.prefixtree.specs.declared.path.End.{End as PathEnd}
use Rattle.prefixtree.specs.declared.path.End.TheVariants as path
use Rattle.proofs.specs.Replies.{End, Present, Empty, Other}

module _ (hash : List ℕ → List ℕ) where
  -- the end of a tree's path that a reply's end stands for: an opened leaf has the commitment to its salt, the name
  -- and its key
  abbrev pub end_of_path : List ℕ → End → PathEnd
  end_of_path name (Present salt key) = path.Present (hash (commitment_bytes salt name key))
  end_of_path name Empty = path.Empty
  end_of_path name (Other index commitment) = path.Other index commitment

  -- the text of the node at an end, at level n on the way of an index
  abbrev pub end_text : List ℕ → List ℕ → List ℕ → ℕ → End → List ℕ
  end_text nonce name index n end = end_bytes nonce index n (end_of_path name end)
