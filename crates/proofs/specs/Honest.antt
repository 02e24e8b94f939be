-- What an honest provider's reply is made of (CONIKS, sections 3 and 4).
use Rattle.std.specs.Prelude.{◌≡◌, ℕ, List}
use Rattle.prefixtree.specs.Node.{root_of}
use Rattle.prefixtree.specs.Paths.{IsPath}
use Rattle.prefixtree.specs.Placement.{Items, IsPlacement}
use Rattle.proofs.specs.PathEnds.{end_of_path}
use Rattle.proofs.specs.Replies.{Reply, IsReply}

module _ (hash : List ℕ → List ℕ) (accepted : List ℕ → List ℕ → List ℕ → Type 0) where
  -- the body's root and nonce are those of a tree with these items, the value is accepted for the name
  -- under the body's key, and siblings and end are the tree's path for the value's index
  pub record IsHonest (name : List ℕ) (items : Items) (reply : Reply) : Type 0 where
    pub form : IsReply reply
    pub placement : IsPlacement items
    pub root : reply.body.root ≡ root_of hash reply.body.nonce items
    pub value : accepted reply.body.vuf_key name reply.value
    pub path : IsPath hash reply.body.nonce items (hash reply.value) reply.siblings (end_of_path hash name reply.end)
